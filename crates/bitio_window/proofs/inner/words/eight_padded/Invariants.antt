use mathlib.Core.Path.{◌≡◌}
use Prim.Native.Nat.{◌≤◌, ◌<◌}
use lib.ListN.{length}
use Rattle.bitio_bits.proofs.Numbers.{from}
use Rattle.bitio_window.proofs.inner.words.eight_padded.Given as goal

abbrev pub invariant-loop-i : goal.invariant-loop-i
invariant-loop-i l = (l.i ≤ length l.bytes) × (l.word ≡ from l.bytes l.i) × (l.i < l.at → length l.bytes ≡ l.i)
