-- The tests in their order; each answer is a law of Exits, and past them `finish`.
use Prim.Native.Nat.{◌≤◌}
use mathlib.Core.Path.{ap}
use native.Mathlib.Omega.{arith}
use Rattle.packet_header.specs.Header.{as_header}
use Rattle.packet_header.proofs.Within.{within}
use Rattle.packet_reading.specs.Packet.{rest}
use Rattle.packet_reading.proofs.Exits.{out_empty, out_unmarked, out_end, out_unread, out_read}
use Rattle.packet_reading.proofs.inner.read.read.Goals as goal

pub returns-then-size-eq0-clause-reply : goal.returns-then-size-eq0-clause-reply
returns-then-size-eq0-clause-reply c = let a = c.args in out_empty c.requires.0 a.packet.now a.id a.at.now.0 c.end.result c.end.new.at (c.end.ensures a.reader.now _) c.if-size-eq0.true

pub returns-then-packet-size-eq0-clause-reply : goal.returns-then-packet-size-eq0-clause-reply
returns-then-packet-size-eq0-clause-reply c = let a = c.args in out_unmarked c.requires.0 a.packet.now a.id a.at.now.0 c.malformed.result c.malformed.new.at c.if-size-eq0.false (c.malformed.ensures a.reader.now _) c.if-packet-size-eq0.true

pub returns-then-bits-at-clause-reply : goal.returns-then-bits-at-clause-reply
returns-then-bits-at-clause-reply c = let a = c.args in out_end c.requires.0 a.packet.now a.id a.at.now.0 c.end-then-bits-at.result c.end-then-bits-at.new.at c.if-size-eq0.false c.if-packet-size-eq0.false c.data_bits-bits.ensures.0 (c.end-then-bits-at.ensures a.reader.now _) c.if-bits-at.true

pub returns-in-Err-clause-reply : goal.returns-in-Err-clause-reply
returns-in-Err-clause-reply c =
    let a = c.args in
    out_unread c.requires.0 a.packet.now a.id a.at.now.0 c.malformed-in-Err.result c.malformed-in-Err.new.at c.if-size-eq0.false c.if-packet-size-eq0.false c.data_bits-bits.ensures.0 c.if-bits-at.false c.in-Err.ensures.0 (c.malformed-in-Err.ensures a.reader.now _)

pub finish-requires : goal.finish-requires
finish-requires c =
    let a = c.args in
    let b = c.data_bits-bits in
    let less : a.at.now.0 ≤ b.result = omega (arith, c.if-bits-at.false) in
    let few : b.result ≤ 524280 = omega (arith, b.ensures.1, c.requires.1) in
    (c.requires.0, within a.packet.now (rest b.result a.at.now.0) less (ap as_header c.in-Ok.ensures.0), few)

pub returns-in-Ok-clause-reply : goal.returns-in-Ok-clause-reply
returns-in-Ok-clause-reply c =
    let a = c.args in
    out_read c.requires.0 a.packet.now a.id a.at.now.0 c.finish.result c.finish.new.at c.if-size-eq0.false c.if-packet-size-eq0.false c.data_bits-bits.ensures.0 c.if-bits-at.false c.in-Ok.ensures.0 c.finish.ensures.reply.0 c.finish.ensures.reply.1
