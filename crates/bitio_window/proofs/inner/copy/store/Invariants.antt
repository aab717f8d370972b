use mathlib.Core.Path.{◌≡◌}
use Prim.Native.Nat.{◌+◌, ◌-◌}
use lib.ListN.{length}
use Rattle.bitio_bits.specs.Words.{stored}
use Rattle.bitio_window.proofs.inner.copy.store.Given as goal

abbrev pub invariant-loop-j : goal.invariant-loop-j
invariant-loop-j l =
    (length l.target ≡ length l.initial.target) × (stored l.initial.target l.at l.word l.m ≡ stored l.target (l.at + l.j) l.rest (l.m - l.j))
