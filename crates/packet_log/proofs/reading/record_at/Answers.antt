-- A whole record, by the law of Entries.
use native.Mathlib.Omega.{arith}
use mir.Syntax.{w32}
use mir.ValLaws.{to_z-of_z}
use Rattle.packet_log.proofs.Entries.{whole_at}
use Rattle.packet_log.proofs.reading.record_at.Goals as goal

pub returns : goal.returns
returns c =
    let h = c.head-head in
    rw (to_z-of_z w32 h.result.id (record { sfits = c.struct_told-1.given.1.0.1 }), h.ensures.0, h.ensures.2) (whole_at c.args.bytes.now c.args.at c.if-at-size.false (omega arith))
