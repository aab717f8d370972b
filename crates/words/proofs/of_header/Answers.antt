-- Word by word; the signed fields, the reason and the kind by their own functions.
use mathlib.Core.Path.{refl, ap, ◌∙◌}
use mir.Syntax.{w32}
use mir.Val.{SFits, of_z}
use mir.ValLaws.{to_z-of_z}
use Rattle.words.proofs.of_header.Goals as goal

pub returns : goal.returns
returns c =
    let h = c.args.h in
    let f : SFits w32 h.packet_id = record { sfits = c.struct_told-1.given.0.1 } in
    let g : SFits w32 h.ch_sequence = record { sfits = c.struct_told-2-1.given.1.1.1.1.1.1.1.1.1.1.1.1.0.1 } in
    rw (
      c.to_word-id.ensures ∙ ap (of_z w32) (to_z-of_z w32 h.packet_id f),
      c.to_word-sequence.ensures ∙ ap (of_z w32) (to_z-of_z w32 h.ch_sequence g),
      c.to_raw-closed.ensures.0,
      c.kind_word-wrong.ensures,
    )
    refl
