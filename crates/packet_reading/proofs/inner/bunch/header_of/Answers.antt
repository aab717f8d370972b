-- Field by field; the sequence, the id and the reason by their own functions.
use mir.Syntax.{w32}
use mir.ValLaws.{to_z-of_z}
use Rattle.packet_reading.proofs.inner.bunch.header_of.Goals as goal

pub returns : goal.returns
returns c =
    let id = c.of_word-packet_id in
    let sequence = c.of_word-ch_sequence in
    simp (to_z-of_z w32 id.result (record { sfits = id.type_inv }), to_z-of_z w32 sequence.result (record { sfits = sequence.type_inv })) (simp (id.ensures, sequence.ensures, c.from_raw-close_reason.ensures, c.from.ensures))
