-- Each way through is one law of Numbering, at the slot that was found.
use Prim.Native.Nat.{suc, ◌+◌, ◌≤◌}
use mathlib.Core.Path.{◌≡◌, sym, ◌∙◌}
use native.Mathlib.Omega.{arith}
use lib.ListN.{length, get_or}
use Rattle.packet_tracking.proofs.Numbering.{at_inside, at_last, at_next, free_inside, free_full, free_new}
use borrow.Author.Tests.{eqb-true, eqb-false}
use Rattle.packet_tracking.proofs.inner.sequences.reliably.Goals as goal

pub find-requires : goal.find-requires
find-requires c =
    let a = c.args in
    let p = c.requires.0 in
    let fits : a.live.now ≤ length a.channels.now = omega (arith, p.live_fits, p.room) in
    let few : a.live.now ≤ 4096 = omega (arith, p.live_fits, p.few) in
    (fits, few, p.ascends)

pub offset_bounds-numbers-i : goal.offset_bounds-numbers-i
offset_bounds-numbers-i c =
    let a = c.args in
    let p = c.requires in
    let h = at_inside a.channels.now a.numbers.now p.0 p.1 a.channel c.in-Ok.i (sym c.find.ensures ∙ c.in-Ok.is) in
    omega (arith, h, p.0.few, p.0.live_fits)

pub bounds-numbers-i : goal.bounds-numbers-i
bounds-numbers-i c =
    let a = c.args in
    let p = c.requires in
    let h = at_inside a.channels.now a.numbers.now p.0 p.1 a.channel c.in-Ok.i (sym c.find.ensures ∙ c.in-Ok.is) in
    omega (arith, h, p.1, p.0.live_fits)

pub returns-then-is_last : goal.returns-then-is_last
returns-then-is_last c =
    let a = c.args in
    let p = c.requires in
    sym (at_last a.channels.now a.numbers.now p.0 p.1 a.channel c.in-Ok.i (sym c.find.ensures ∙ c.in-Ok.is) (eqb-true (get_or a.numbers.now c.in-Ok.i 0) 2147483647 (sym c.is_last.ensures ∙ c.if-is_last.true)))

pub offset_bounds-numbers-i-in-Ok : goal.offset_bounds-numbers-i-in-Ok
offset_bounds-numbers-i-in-Ok c =
    let a = c.args in
    let p = c.requires in
    let h = at_inside a.channels.now a.numbers.now p.0 p.1 a.channel c.in-Ok.i (sym c.find.ensures ∙ c.in-Ok.is) in
    omega (arith, h, p.0.few, p.0.live_fits)

pub bounds-numbers-i-in-Ok : goal.bounds-numbers-i-in-Ok
bounds-numbers-i-in-Ok c =
    let a = c.args in
    let p = c.requires in
    let h = at_inside a.channels.now a.numbers.now p.0 p.1 a.channel c.in-Ok.i (sym c.find.ensures ∙ c.in-Ok.is) in
    omega (arith, h, p.1, p.0.live_fits)

pub returns-then-limit-live : goal.returns-then-limit-live
returns-then-limit-live c =
    let a = c.args in
    let p = c.requires in
    sym (free_full a.channels.now a.numbers.now p.0 p.1 a.channel c.in-Err.i (sym c.find.ensures ∙ c.in-Err.is) c.if-limit-live.true)

pub insert-requires : goal.insert-requires
insert-requires c =
    let a = c.args in
    let p = c.requires in
    let h = free_inside a.channels.now a.numbers.now p.0 p.1 a.channel c.in-Err.i (sym c.find.ensures ∙ c.in-Err.is) in
    (h, omega (arith, p.0.room, c.if-limit-live.false))

pub insert-requires-in-Err : goal.insert-requires-in-Err
insert-requires-in-Err c =
    let a = c.args in
    let p = c.requires in
    let h = free_inside a.channels.now a.numbers.now p.0 p.1 a.channel c.in-Err.i (sym c.find.ensures ∙ c.in-Err.is) in
    (h, omega (arith, p.1, c.if-limit-live.false))

pub returns-else-is_last : goal.returns-else-is_last
returns-else-is_last c =
    let a = c.args in
    let p = c.requires in
    rw c.following-next.ensures
    (sym (at_next a.channels.now a.numbers.now p.0 p.1 a.channel c.in-Ok.i (sym c.find.ensures ∙ c.in-Ok.is) (eqb-false (get_or a.numbers.now c.in-Ok.i 0) 2147483647 (sym c.is_last.ensures ∙ c.if-is_last.false))))

pub returns-else-limit-live : goal.returns-else-limit-live
returns-else-limit-live c =
    let a = c.args in
    let p = c.requires in
    let n : a.live.now + 1 ≡ suc a.live.now = omega arith in
    rw (c.insert.ensures, c.insert-in-Err.ensures, n)
    (sym (free_new a.channels.now a.numbers.now p.0 p.1 a.channel c.in-Err.i (sym c.find.ensures ∙ c.in-Err.is) c.if-limit-live.false))
