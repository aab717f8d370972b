-- The fields in a row; the id is the struct's number.
use mir.Syntax.{w32}
use mir.ValLaws.{to_z-of_z}
use Rattle.log_lines.specs.Lines.{packet_line}
use Rattle.log_lines.proofs.Texts.{then}
use Rattle.log_lines.proofs.inner.lines.packet_line.Goals as goal

pub returns : goal.returns
unfolding packet_line
returns c =
    let p = c.args.line in
    then c.byte-kind.ensures
    (then (rw (to_z-of_z w32 p.packet_id (record { sfits = c.struct_told-1.given.0.1 })) at c.signed_number-id.ensures)
    (then c.number-bunches.ensures
    (then (rw c.zero_or_one.ensures at c.letter-malformed.ensures)
    (then c.number-errors.ensures
    (then c.number-limits.ensures c.byte.ensures)))))
