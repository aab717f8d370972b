-- The messages of the places before i are listed: a turn is Listing's `lists_next`.
use Prim.Native.Nat.{suc, ◌+◌, ◌<◌}
use mathlib.Core.Path.{◌≡◌, refl}
use native.Mathlib.Omega.{arith}
use borrow.Author.Rules.{rules}
use Rattle.bunch_held.specs.Memory.{held_memory, sum_of, state_of}
use Rattle.bunch.proofs.Listing.{lists_none, start_next, lists_next, Room, room, lists_all}
use Rattle.bunch.proofs.inner.list_all.Goals.{In-loop-i}
use Rattle.bunch.proofs.inner.list_all.Goals as goal

pub loop-i-init : goal.loop-i-init
unfolding sum_of
loop-i-init c =
    let a = c.args in
    (refl, refl, refl, lists_none (state_of a.a.active (held_memory a.channels.now a.places.now a.arena.now)) a.output.now a.list.now)

-- where the loop goes on, there is room for the next message
going : (c : In-loop-i) → let l = c.loop-i in let a = c.args in
    Room (held_memory a.channels.now a.places.now a.arena.now) l.i l.start l.at l.n l.output l.list
going c =
    let l = c.loop-i in
    let a = c.args in
    room a.a (held_memory a.channels.now a.places.now a.arena.now) c.requires.0 l.i (omega arith) (omega (arith, c.requires.1, l.invariant.1)) (omega (arith, c.requires.2, l.invariant.2)) l.invariant.0 l.invariant.3

pub list_one-requires : goal.list_one-requires
list_one-requires c = let r = going (goal.at.list_one-requires c).In-loop-i in (r.few_bits, r.in_arena, r.in_output, r.in_list)

pub overflow_add-start : goal.overflow_add-start
overflow_add-start c = omega (arith, (going (goal.at.overflow_add-start c).In-loop-i).few_bytes, c.bytes_of-start.ensures)

pub overflow_add-at : goal.overflow_add-at
overflow_add-at c = omega (arith, (going (goal.at.overflow_add-at c).In-loop-i).in_output, c.shown_size-at.ensures)

pub overflow_add-n : goal.overflow_add-n
overflow_add-n c = omega (arith, (going (goal.at.overflow_add-n c).In-loop-i).in_list, c.shown_count-n.ensures)

pub loop-i-preserved : goal.loop-i-preserved
loop-i-preserved c =
    let a = c.args in
    let m = held_memory a.channels.now a.places.now a.arena.now in
    let l = c.loop-i in
    let h : l.i < a.a.active = omega (arith, c.loop-i-test) in
    let one = c.list_one in
    let next : l.i + 1 ≡ suc l.i = omega arith in
    (rw next (omega (arith, start_next a.a m c.requires.0 l.i h, l.invariant.0, c.bytes_of-start.ensures)), search rules, search rules, lists_next a.a m c.requires.0 l.i h (l.i + 1) (l.at + c.shown_size-at.result) (l.n + c.shown_count-n.result) l.invariant.3 next (omega (arith, c.shown_size-at.ensures)) (omega (arith, c.shown_count-n.ensures)) (rw l.invariant.0 at one.ensures.output) one.ensures.list)

pub returns : goal.returns
returns c =
    let l = c.loop-i in
    let a = c.args in
    lists_all a.a (held_memory a.channels.now a.places.now a.arena.now) c.requires.0 (omega arith) l.invariant.3

pub bytes_of-start-requires : goal.bytes_of-start-requires
bytes_of-start-requires c = (going (goal.at.bytes_of-start-requires c).In-loop-i).few_bits

pub shown_size-at-requires : goal.shown_size-at-requires
shown_size-at-requires c = (going (goal.at.shown_size-at-requires c).In-loop-i).few_bits

pub shape_of-output : goal.shape_of-output
shape_of-output c = c.loop-i.invariant.1

pub shape_of-list : goal.shape_of-list
shape_of-list c = c.loop-i.invariant.2
