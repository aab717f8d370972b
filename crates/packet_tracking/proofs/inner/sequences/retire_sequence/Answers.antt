-- Each way through is one law of Retiring, at the slot that was found.
use Prim.Native.Nat.{suc, ◌-◌}
use mathlib.Core.Path.{◌≡◌, sym, ◌∙◌}
use native.Mathlib.Omega.{arith}
use Rattle.tables.proofs.Join.{at_live}
use Rattle.packet_tracking.proofs.SequenceRetiring.{sequence_gone, sequence_absent}
use Rattle.packet_tracking.proofs.inner.sequences.retire_sequence.Goals as goal

pub remove-requires : goal.remove-requires
remove-requires c =
    let a = c.args in
    let p = c.requires in
    (at_live a.channel c.in-Ok.i a.live.now a.channels.now p.0.room (sym c.find.ensures ∙ c.in-Ok.is), p.0.room)

pub remove-requires-in-Ok : goal.remove-requires-in-Ok
remove-requires-in-Ok c =
    let a = c.args in
    let p = c.requires in
    (at_live a.channel c.in-Ok.i a.live.now a.channels.now p.0.room (sym c.find.ensures ∙ c.in-Ok.is), p.1)

pub overflow_sub-live : goal.overflow_sub-live
overflow_sub-live c =
    let a = c.args in
    omega
    (arith, at_live a.channel c.in-Ok.i a.live.now a.channels.now c.requires.0.room (sym c.find.ensures ∙ c.in-Ok.is))

pub returns-in-Ok : goal.returns-in-Ok
returns-in-Ok c =
    let a = c.args in
    let p = c.requires in
    let slot = sym c.find.ensures ∙ c.in-Ok.is in
    let h = at_live a.channel c.in-Ok.i a.live.now a.channels.now p.0.room slot in
    let n : suc (a.live.now - 1) ≡ a.live.now = omega (arith, h) in
    rw (c.remove.ensures, c.remove-in-Ok.ensures)
    (sequence_gone a.channel c.in-Ok.i a.channels.now a.numbers.now p.0 p.1 slot n)

pub returns-in-Err : goal.returns-in-Err
returns-in-Err c =
    let a = c.args in
    let p = c.requires in
    sequence_absent a.channel _ a.channels.now a.numbers.now p.0 p.1 (sym c.find.ensures ∙ c.in-Err.is)
