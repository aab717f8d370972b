-- The numbers at the slot, and the room that is required, keep every index and sum in range; the steps together are `started`.
use mathlib.Core.Path.{refl}
use native.Mathlib.Omega.{arith}
use Rattle.bunch_settling.proofs.Numbers.{free_numbers}
use Rattle.bunch_settling.proofs.Edits.{started}
use Rattle.bunch_settling.proofs.inner.messages.SettledMemory.start_message.Goals as goal

pub returns-clause-lays : goal.returns-clause-lays
returns-clause-lays c =
    started _ _ _ _ _ _ _ _ c.requires _ c.bytes_of-n.ensures c.move_bytes.ensures c.put_payload.ensures c.insert_place.ensures c.insert.ensures refl

pub bytes_of-n-requires : goal.bytes_of-n-requires
bytes_of-n-requires c = let g = c.requires in let f = free_numbers _ _ _ _ _ _ g.vacant in omega (arith, f, g)

pub overflow_add-start : goal.overflow_add-start
overflow_add-start c = let g = c.requires in let f = free_numbers _ _ _ _ _ _ g.vacant in omega (arith, f, g)

pub overflow_sub-used : goal.overflow_sub-used
overflow_sub-used c = let g = c.requires in let f = free_numbers _ _ _ _ _ _ g.vacant in omega (arith, f, g)

pub move_bytes-requires : goal.move_bytes-requires
move_bytes-requires c = let g = c.requires in let f = free_numbers _ _ _ _ _ _ g.vacant in (omega (arith, f, g), omega (arith, f, g))

pub put_payload-requires : goal.put_payload-requires
put_payload-requires c = let g = c.requires in let f = free_numbers _ _ _ _ _ _ g.vacant in (omega (arith, f, g), omega (arith, f, g))

pub insert_place-requires : goal.insert_place-requires
insert_place-requires c = let g = c.requires in let f = free_numbers _ _ _ _ _ _ g.vacant in (omega (arith, f, g), omega (arith, f, g))

pub insert-requires : goal.insert-requires
insert-requires c = let g = c.requires in let f = free_numbers _ _ _ _ _ _ g.vacant in (omega (arith, f, g), omega (arith, f, g))

pub overflow_add-self : goal.overflow_add-self
overflow_add-self c = let g = c.requires in let f = free_numbers _ _ _ _ _ _ g.vacant in omega (arith, f, g)

pub overflow_add-self-2 : goal.overflow_add-self-2
overflow_add-self-2 c = let g = c.requires in let f = free_numbers _ _ _ _ _ _ g.vacant in omega (arith, f, g)

pub overflow_add-self-3 : goal.overflow_add-self-3
overflow_add-self-3 c = let g = c.requires in let f = free_numbers _ _ _ _ _ _ g.vacant in omega (arith, f, g)
