use mathlib.Core.Path.{◌≡◌}
use Prim.Native.Nat.{◌-◌, ◌≤◌}
use lib.ListN.{length}
use Rattle.bunch_places.specs.Bytes.{pasted, part}
use Rattle.bunch_places.proofs.inner.move_down_by_bytes.Given as goal

abbrev pub invariant-loop-i : goal.invariant-loop-i
invariant-loop-i l = (l.i ≤ l.n) × (length l.arena ≡ length l.initial.arena) × (l.arena ≡ pasted l.to (part l.from l.i l.initial.arena) l.initial.arena)

abbrev pub decreases-loop-i : goal.decreases-loop-i
decreases-loop-i l = l.n - l.i
