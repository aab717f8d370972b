-- Each effect is one law of Effects, at the channel's place.
use native.Mathlib.Omega.{arith}
use Rattle.packet_tracking.proofs.Tracking.{inside, indexed}
use Rattle.packet_tracking.proofs.Effects.{same_laid, put_laid, gone_laid}
use Rattle.packet_tracking.proofs.inner.partials.edit_there.Goals as goal

pub offset_bounds-sequences-i : goal.offset_bounds-sequences-i
offset_bounds-sequences-i c =
    let a = c.args in
    let p = c.requires in
    omega (arith, indexed a.f.ch_index a.i a.channels.now a.sequences.now a.reliables.now p.0 p.1 p.2 p.3)

pub bounds-sequences-i : goal.bounds-sequences-i
bounds-sequences-i c =
    let a = c.args in
    let p = c.requires in
    omega (arith, indexed a.f.ch_index a.i a.channels.now a.sequences.now a.reliables.now p.0 p.1 p.2 p.3)

pub offset_bounds-reliables-i : goal.offset_bounds-reliables-i
offset_bounds-reliables-i c =
    let a = c.args in
    let p = c.requires in
    omega (arith, indexed a.f.ch_index a.i a.channels.now a.sequences.now a.reliables.now p.0 p.1 p.2 p.3)

pub bounds-reliables-i : goal.bounds-reliables-i
bounds-reliables-i c =
    let a = c.args in
    let p = c.requires in
    omega (arith, indexed a.f.ch_index a.i a.channels.now a.sequences.now a.reliables.now p.0 p.1 p.2 p.3)

pub take_out-requires : goal.take_out-requires
take_out-requires c =
    let a = c.args in
    let p = c.requires in
    (inside a.f.ch_index a.i a.channels.now a.sequences.now a.reliables.now p.0 p.1 p.2 p.3, p.0.room, p.1, p.2)

pub returns-in-Stays : goal.returns-in-Stays
returns-in-Stays c =
    let a = c.args in
    let p = c.requires in
    rw c.in-Stays.is
    (same_laid a.f.ch_index a.i a.channels.now a.sequences.now a.reliables.now p.0 p.1 p.2)

pub returns-in-Puts : goal.returns-in-Puts
returns-in-Puts c =
    let a = c.args in
    let p = c.requires in
    rw (c.in-Puts.is, c.from.ensures)
    (put_laid a.f.ch_index a.i a.channels.now a.sequences.now a.reliables.now p.0 p.1 p.2 p.3 a.sequence _)

pub returns-in-Removed : goal.returns-in-Removed
returns-in-Removed c =
    let a = c.args in
    let p = c.requires in
    let e = c.take_out.ensures in
    rw (c.in-Removed.is, e.1, e.2, e.3)
    (gone_laid a.f.ch_index a.i a.channels.now a.sequences.now a.reliables.now p.0 p.1 p.2 p.3 e.0)
