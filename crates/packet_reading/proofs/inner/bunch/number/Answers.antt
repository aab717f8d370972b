-- A reliable bunch's sequence is `reliably`'s; any other leaves the table as it is.
use mathlib.Core.Path.{sym}
use mathlib.Core.Bool.{false}
use Rattle.packet_tracking.specs.Sequences.{numbered, unreliable}
use Rattle.packet_tracking.proofs.Numbering.{same_sequences}
use Rattle.packet_reading.proofs.inner.bunch.number.Goals as goal

pub returns-then-f : goal.returns-then-f
unfolding numbered
returns-then-f c = rw c.if-f.true c.reliably.ensures

pub returns : goal.returns
unfolding numbered unreliable
returns c =
    let a = c.args in
    let p = c.requires in
    rw (c.if-f.false, c.unreliable.ensures)
    (sym (same_sequences a.channels.now a.numbers.now p.0 p.1 (unreliable a.f a.id) false))
