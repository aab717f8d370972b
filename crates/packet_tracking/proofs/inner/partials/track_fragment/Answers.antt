-- What is judged at the slot that was found is the table's judgement, and its effect is the edit's.
use mathlib.Core.Path.{sym, ◌∙◌}
use native.Mathlib.Omega.{arith}
use Rattle.packet_tracking.proofs.Tracking.{lives, roomy, indexed}
use Rattle.packet_tracking.proofs.Effects.{judged_there, judged_absent, puts_within, laid_in}
use Rattle.packet_tracking.proofs.inner.partials.track_fragment.Goals as goal

pub offset_bounds-sequences-i : goal.offset_bounds-sequences-i
offset_bounds-sequences-i c =
    let a = c.args in
    let p = c.requires in
    let s = sym c.find.ensures ∙ c.in-Ok.is in
    omega (arith, indexed a.f.ch_index c.in-Ok.i a.channels.now a.sequences.now a.reliables.now (lives p.0) (roomy p.0 p.1) (roomy p.0 p.2) s)

pub bounds-sequences-i : goal.bounds-sequences-i
bounds-sequences-i c =
    let a = c.args in
    let p = c.requires in
    let s = sym c.find.ensures ∙ c.in-Ok.is in
    omega (arith, indexed a.f.ch_index c.in-Ok.i a.channels.now a.sequences.now a.reliables.now (lives p.0) (roomy p.0 p.1) (roomy p.0 p.2) s)

pub offset_bounds-reliables-i : goal.offset_bounds-reliables-i
offset_bounds-reliables-i c =
    let a = c.args in
    let p = c.requires in
    let s = sym c.find.ensures ∙ c.in-Ok.is in
    omega (arith, indexed a.f.ch_index c.in-Ok.i a.channels.now a.sequences.now a.reliables.now (lives p.0) (roomy p.0 p.1) (roomy p.0 p.2) s)

pub bounds-reliables-i : goal.bounds-reliables-i
bounds-reliables-i c =
    let a = c.args in
    let p = c.requires in
    let s = sym c.find.ensures ∙ c.in-Ok.is in
    omega (arith, indexed a.f.ch_index c.in-Ok.i a.channels.now a.sequences.now a.reliables.now (lives p.0) (roomy p.0 p.1) (roomy p.0 p.2) s)

pub edit_there-requires : goal.edit_there-requires
edit_there-requires c =
    let p = c.requires in
    (lives p.0, roomy p.0 p.1, roomy p.0 p.2, sym c.find.ensures ∙ c.in-Ok.is)

pub edit_free-requires : goal.edit_free-requires
edit_free-requires c =
    let a = c.args in
    let p = c.requires in
    (lives p.0, roomy p.0 p.1, roomy p.0 p.2, sym c.find.ensures ∙ c.in-Err.is, record { roomy = λ e. let h = puts_within a.f a.sequence a.limit a.live.now c.judge-v-in-Err.result c.judge-v-in-Err.ensures e in (omega (arith, h, p.0.room), omega (arith, h, p.1), omega (arith, h, p.2)) })

pub returns-in-Ok : goal.returns-in-Ok
returns-in-Ok c =
    let a = c.args in
    let p = c.requires in
    let j = judged_there a.limit c.in-Ok.i a.f a.sequence a.channels.now a.sequences.now a.reliables.now (lives p.0) (roomy p.0 p.1) (roomy p.0 p.2) (sym c.find.ensures ∙ c.in-Ok.is) in
    rw (← (c.judge-v.ensures ∙ j)) (laid_in _ _ c.edit_there.ensures)

pub returns-in-Err : goal.returns-in-Err
returns-in-Err c =
    let a = c.args in
    let p = c.requires in
    let j = judged_absent a.limit c.in-Err.i a.f a.sequence a.channels.now a.sequences.now a.reliables.now (lives p.0) (roomy p.0 p.1) (roomy p.0 p.2) (sym c.find.ensures ∙ c.in-Err.is) in
    rw (← (c.judge-v-in-Err.ensures ∙ j)) (laid_in _ _ c.edit_free.ensures)
