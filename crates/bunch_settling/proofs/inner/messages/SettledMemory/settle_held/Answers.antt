-- What stays is changed by the words and bytes that it means; else the message goes.
use mathlib.Core.Path.{refl}
use native.Mathlib.Omega.{arith}
use Rattle.bunch_settling.specs.Settling.{settled_memory}
use Rattle.bunch_settling.proofs.Numbers.{numbers}
use Rattle.bunch_settling.proofs.Places.{place_long}
use Rattle.bunch_settling.proofs.Settles.{stayed_is, changing, bits_after, joins_few, bytes_kept, bytes_room}
use Rattle.bunch_settling.proofs.inner.messages.SettledMemory.settle_held.Goals as goal

pub bytes_of-keep-requires : goal.bytes_of-keep-requires
bytes_of-keep-requires c =
    let g = c.requires in
    omega (arith, joins_few _ _ _ _ _ _ _ _ _ _ _ g c.bits_if-joins.ensures, numbers _ _ _ _ _ _ g.occupied)

pub put_place-requires : goal.put_place-requires
put_place-requires c =
    let g = c.requires in
    let o = g.occupied in
    let f = numbers _ _ _ _ _ _ o in
    record { there = omega (arith, f); words = place_long _ _ o.sound.stands _ _ o.slot; few = omega (arith, f, g.short) }

pub overflow_add-joins : goal.overflow_add-joins
overflow_add-joins c =
    let g = c.requires in
    omega (arith, joins_few _ _ _ _ _ _ _ _ _ _ _ g c.bits_if-joins.ensures, numbers _ _ _ _ _ _ g.occupied, g.short)

pub change_bytes-requires : goal.change_bytes-requires
change_bytes-requires c =
    let g = c.requires in
    let joins = c.bits_if-joins.ensures in
    bytes_room _ _ _ _ _ _ _ _ _ _ _ g (bytes_kept _ _ _ _ _ _ _ _ _ _ _ g joins c.bytes_of-keep.ensures) (rw joins (bits_after _ _ _ _ _ _ _ _ _ _ _ g)) c.if-e.true

pub returns-then-e-clause-lays : goal.returns-then-e-clause-lays
returns-then-e-clause-lays c =
    let g = c.requires in
    let joins = c.bits_if-joins.ensures in
    let taken = c.if-e.true in
    let keep = bytes_kept _ _ _ _ _ _ _ _ _ _ _ g joins c.bytes_of-keep.ensures in
    rw (taken, c.change_bytes.ensures.others.0, c.change_bytes.ensures.others.1, c.put_place.ensures)
    (c.change_bytes.ensures.lays (settled_memory c.args.self.now) _ c.args.i _ refl refl (rw joins (bits_after _ _ _ _ _ _ _ _ _ _ _ g)) (changing _ _ _ _ _ _ _ _ _ _ _ g refl keep taken) _ (rw keep (stayed_is _ _ _ _ _ _ _ _ _ _ _ g)))

pub returns-clause-lays : goal.returns-clause-lays
returns-clause-lays c = rw c.if-e.false c.drop_message.ensures.lays

pub offset_bounds-self-i : goal.offset_bounds-self-i
offset_bounds-self-i c = let f = numbers _ _ _ _ _ _ c.requires.occupied in omega (arith, f)

pub bounds-self-i : goal.bounds-self-i
bounds-self-i c = let f = numbers _ _ _ _ _ _ c.requires.occupied in omega (arith, f)

pub drop_message-requires : goal.drop_message-requires
drop_message-requires c = c.requires.occupied
