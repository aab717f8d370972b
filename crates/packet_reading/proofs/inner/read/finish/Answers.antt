-- What numbering left is Finishing's; then the overrun, or `settle`.
use Prim.Native.Nat.{◌+◌, ◌≤◌}
use mathlib.Core.Path.{refl, ◌∙◌}
use native.Mathlib.Omega.{arith}
use Rattle.packet_reading.specs.Memory.{reader_of}
use Rattle.packet_reading.proofs.Finishing.{numbered_state, overrun, fits}
use Rattle.packet_reading.proofs.inner.read.finish.Goals as goal

pub number-n-requires : goal.number-n-requires
number-n-requires c = let p = c.requires.0 in (p.sequences, p.numbers)

pub returns-then-end-at-clause-reply : goal.returns-then-end-at-clause-reply
returns-then-end-at-clause-reply c =
    let a = c.args in
    let n = c.number-n in
    (c.malformed.ensures (reader_of a.reader.now.max_channels _ _) _ ∙ overrun c.requires.0 a.f a.id a.at.now.0 a.end n.result _ _ _ n.ensures (rw c.from.ensures at c.if-end-at.true), refl)

pub settle-requires : goal.settle-requires
settle-requires c =
    let a = c.args in
    let p = c.requires in
    let n = c.number-n in
    let room : a.at.now.0 + a.f.payload_bit_count ≤ 524280 = omega (arith, p.1, p.2, c.if-end-at.false) in
    (numbered_state p.0 a.f a.id a.at.now.0 a.end n.result _ _ _ n.ensures, room)

pub returns-clause-reply : goal.returns-clause-reply
returns-clause-reply c =
    let a = c.args in
    let n = c.number-n in
    (c.settle.ensures.reply.0 ∙ fits c.requires.0 a.f a.id a.at.now.0 a.end n.result _ _ _ n.ensures (rw c.from.ensures at c.if-end-at.false), c.settle.ensures.reply.1)
