-- By the slot.
use Prim.Native.Nat.{ℕ}
use mathlib.Core.Path.{◌≡◌}
use mathlib.Core.List.{List}
use native.Mathlib.Omega.{arith}
use Rattle.tables.specs.Tables.{Slot}
use Rattle.bunch_held.specs.declared.Accumulator.{Accumulator}
use Rattle.bunch_joining.specs.Meetings.{Meetable}
use Rattle.bunch_joining.proofs.inner.adding.meet.Goals as goal

-- what is asked at a slot that is known
asked : (a : Accumulator) (ps : List (List ℕ)) (bits : ℕ) {s t : Slot} → s ≡ t → Meetable a ps s bits → Meetable a ps t bits
asked a ps bits e q = rw e at q

pub returns-in-Ok : goal.returns-in-Ok
returns-in-Ok c = rw c.in-Ok.is c.meet_held.ensures

pub returns-in-Err : goal.returns-in-Err
returns-in-Err c = rw c.in-Err.is c.meet_nothing.ensures

pub offset_bounds-s-i : goal.offset_bounds-s-i
offset_bounds-s-i c = let q = asked c.args.s.now.accumulator c.args.s.now.places.now c.args.bits c.in-Ok.is c.requires in omega (arith, q)

pub bounds-s-i : goal.bounds-s-i
bounds-s-i c = (asked c.args.s.now.accumulator c.args.s.now.places.now c.args.bits c.in-Ok.is c.requires).0

pub meet_held-requires : goal.meet_held-requires
meet_held-requires c = (asked c.args.s.now.accumulator c.args.s.now.places.now c.args.bits c.in-Ok.is c.requires).1

pub meet_nothing-requires : goal.meet_nothing-requires
meet_nothing-requires c = asked c.args.s.now.accumulator c.args.s.now.places.now c.args.bits c.in-Err.is c.requires
