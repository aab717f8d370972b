-- The numbers at the slot keep every index and difference in range; the steps together are `dropped`.
use mathlib.Core.Path.{refl}
use native.Mathlib.Omega.{arith}
use Rattle.bunch_settling.proofs.Numbers.{numbers}
use Rattle.bunch_settling.proofs.Edits.{dropped}
use Rattle.bunch_settling.proofs.inner.messages.SettledMemory.drop_message.Goals as goal

pub returns-clause-lays : goal.returns-clause-lays
returns-clause-lays c =
    dropped _ _ _ _ _ _ c.requires _ c.bytes_of-n.ensures c.move_bytes.ensures c.remove_place.ensures c.remove.ensures refl

pub offset_bounds-self-i : goal.offset_bounds-self-i
offset_bounds-self-i c = omega (arith, numbers _ _ _ _ _ _ c.requires)

pub bounds-self-i : goal.bounds-self-i
bounds-self-i c = omega (arith, numbers _ _ _ _ _ _ c.requires)

pub bytes_of-n-requires : goal.bytes_of-n-requires
bytes_of-n-requires c = omega (arith, numbers _ _ _ _ _ _ c.requires)

pub overflow_add-next : goal.overflow_add-next
overflow_add-next c = omega (arith, numbers _ _ _ _ _ _ c.requires)

pub overflow_sub-used : goal.overflow_sub-used
overflow_sub-used c = omega (arith, numbers _ _ _ _ _ _ c.requires)

pub move_bytes-requires : goal.move_bytes-requires
move_bytes-requires c = let f = numbers _ _ _ _ _ _ c.requires in (omega (arith, f), omega (arith, f))

pub remove_place-requires : goal.remove_place-requires
remove_place-requires c = let f = numbers _ _ _ _ _ _ c.requires in (omega (arith, f), omega (arith, f))

pub remove-requires : goal.remove-requires
remove-requires c = let f = numbers _ _ _ _ _ _ c.requires in (omega (arith, f), omega (arith, f))

pub overflow_sub-self : goal.overflow_sub-self
overflow_sub-self c = omega (arith, numbers _ _ _ _ _ _ c.requires)

pub overflow_sub-self-2 : goal.overflow_sub-self-2
overflow_sub-self-2 c = omega (arith, numbers _ _ _ _ _ _ c.requires)

pub overflow_sub-self-3 : goal.overflow_sub-self-3
overflow_sub-self-3 c = omega (arith, numbers _ _ _ _ _ _ c.requires)
