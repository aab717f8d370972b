-- The fields in a row; id and sequence are the struct's numbers.
use mir.Syntax.{w32}
use mir.ValLaws.{to_z-of_z}
use Rattle.log_lines.proofs.Texts.{then}
use Rattle.log_lines.proofs.inner.lines.bunch_names.Goals as goal

pub returns : goal.returns
returns c =
    let b = c.args.line in
    then c.byte-kind.ensures
    (then (rw (to_z-of_z w32 b.packet_id (record { sfits = c.struct_told-1.given.0.1 })) at c.signed_number-id.ensures)
    (then c.number-channel.ensures
    (rw (to_z-of_z w32 b.ch_sequence (record { sfits = c.struct_told-2-1.given.1.1.0.1 })) at c.signed_number.ensures)))
