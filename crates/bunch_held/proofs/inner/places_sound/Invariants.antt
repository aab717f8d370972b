use Prim.Native.Nat.{◌+◌, ◌*◌, ◌-◌, ◌≤◌}
use mathlib.Core.Path.{◌≡◌}
use lib.ListN.{length, take, drop}
use Rattle.bunch_held.specs.Memory.{size_all}
use Rattle.bunch_held.specs.Sound.{places_sound}
use Rattle.bunch_held.proofs.inner.places_sound.Given as goal

abbrev pub invariant-loop-p : goal.invariant-loop-p
invariant-loop-p l =
    (l.left ≤ l.total) × (8 * l.start + l.left + 7 * (length l.places - l.p-index) ≤ 8 * length l.arena) × (l.start ≡ size_all (take l.p-index l.places))
    × (places_sound l.places l.arena l.total ≡ places_sound (drop l.p-index l.places) (drop l.start l.arena) l.left)
