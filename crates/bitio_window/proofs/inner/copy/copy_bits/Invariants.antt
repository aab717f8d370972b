use mathlib.Core.Path.{◌≡◌}
use Prim.Native.Nat.{◌+◌, ◌*◌}
use lib.ListN.{length}
use Rattle.bitio_window.proofs.Copied.{Front}
use Rattle.bitio_window.proofs.inner.copy.copy_bits.Given as goal

abbrev pub invariant-loop-left : goal.invariant-loop-left
invariant-loop-left l =
    (l.left + 8 * l.i ≡ l.count) × (length l.target ≡ length l.initial.target) × Front l.bytes l.initial.target l.at.0 l.count l.i l.target

abbrev pub decreases-loop-left : goal.decreases-loop-left
decreases-loop-left l = l.left
