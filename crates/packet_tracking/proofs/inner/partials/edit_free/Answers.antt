-- Each effect is one law of Effects, at the place where the channel would go.
use Prim.Native.Nat.{suc, ◌+◌}
use mathlib.Core.Path.{◌≡◌}
use native.Mathlib.Omega.{arith}
use Rattle.tables.proofs.Join.{free_live}
use Rattle.packet_tracking.specs.Partials.{in_flight}
use Rattle.packet_tracking.proofs.Effects.{new_laid, kept_laid}
use Rattle.packet_tracking.proofs.inner.partials.edit_free.Goals as goal

pub insert-requires : goal.insert-requires
insert-requires c =
    let a = c.args in
    let p = c.requires in
    (free_live a.f.ch_index a.i a.live.now a.channels.now p.0.room p.3, (p.4.roomy c.in-Puts.is).0)

pub insert-requires-in-Puts : goal.insert-requires-in-Puts
insert-requires-in-Puts c =
    let a = c.args in
    let p = c.requires in
    (free_live a.f.ch_index a.i a.live.now a.channels.now p.0.room p.3, (p.4.roomy c.in-Puts.is).1)

pub insert-requires-in-Puts-2 : goal.insert-requires-in-Puts-2
insert-requires-in-Puts-2 c =
    let a = c.args in
    let p = c.requires in
    (free_live a.f.ch_index a.i a.live.now a.channels.now p.0.room p.3, (p.4.roomy c.in-Puts.is).2)

pub returns-in-Puts : goal.returns-in-Puts
returns-in-Puts c =
    let a = c.args in
    let p = c.requires in
    let n : a.live.now + 1 ≡ suc a.live.now = omega arith in
    rw (c.in-Puts.is, c.insert.ensures, c.insert-in-Puts.ensures, c.insert-in-Puts-2.ensures, c.from.ensures, n)
    (new_laid a.f.ch_index a.i a.channels.now a.sequences.now a.reliables.now p.0 p.1 p.2 p.3 a.sequence _)

pub returns-in-Stays : goal.returns-in-Stays
returns-in-Stays c =
    let a = c.args in
    let p = c.requires in
    kept_laid a.f.ch_index a.i a.channels.now a.sequences.now a.reliables.now p.0 p.1 p.2 p.3 (in_flight a.f a.sequence) c.in-Stays.is
