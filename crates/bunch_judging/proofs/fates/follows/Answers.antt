-- The definition, with the sequence as its word.
use mathlib.Core.Path.{ap, ◌∙◌}
use mir.Syntax.{w32}
use mir.Val.{SFits, of_z}
use mir.ValLaws.{to_z-of_z}
use Rattle.bunch_judging.specs.Fates.{follows}
use mir.Val.{of_z}
use Rattle.bunch_judging.proofs.fates.follows.Goals as goal

pub returns : goal.returns
unfolding follows
returns c =
    let h = c.args.header in
    let f : SFits w32 h.ch_sequence = record { sfits = c.struct_told-1.given.1.1.1.1.1.1.1.1.1.1.1.1.0.1 } in
    rw (c.to_word-next.ensures ∙ ap (of_z w32) (to_z-of_z w32 h.ch_sequence f)) at c.continues.ensures
