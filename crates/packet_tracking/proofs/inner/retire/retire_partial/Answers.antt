-- Each way through is one law of Effects, at the slot that was found.
use mathlib.Core.Path.{sym, ◌∙◌}
use Rattle.tables.proofs.Join.{at_live}
use Rattle.packet_tracking.proofs.Effects.{gone_laid, absent_laid}
use Rattle.packet_tracking.proofs.inner.retire.retire_partial.Goals as goal

pub take_out-requires : goal.take_out-requires
take_out-requires c =
    let a = c.args in
    let p = c.requires in
    (at_live a.channel c.in-Ok.i a.live.now a.channels.now p.0.room (sym c.find.ensures ∙ c.in-Ok.is), p.0.room, p.1, p.2)

pub returns-in-Ok : goal.returns-in-Ok
returns-in-Ok c =
    let a = c.args in
    let p = c.requires in
    let e = c.take_out.ensures in
    rw (e.1, e.2, e.3)
    (gone_laid a.channel c.in-Ok.i a.channels.now a.sequences.now a.reliables.now p.0 p.1 p.2 (sym c.find.ensures ∙ c.in-Ok.is) e.0)

pub returns-in-Err : goal.returns-in-Err
returns-in-Err c =
    let a = c.args in
    let p = c.requires in
    absent_laid a.channel _ a.channels.now a.sequences.now a.reliables.now p.0 p.1 p.2 (sym c.find.ensures ∙ c.in-Err.is)
