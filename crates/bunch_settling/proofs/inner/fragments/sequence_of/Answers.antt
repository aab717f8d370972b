-- The sequence as its word, which fits.
use mathlib.Core.Path.{◌≡◌, ap, ◌∙◌}
use mir.Syntax.{w32}
use mir.Val.{SFits, of_z}
use mir.ValLaws.{to_z-of_z, of_z_fits}
use Rattle.bunch_judging.specs.Fates.{sequence_word}
use Rattle.bunch_settling.proofs.inner.fragments.sequence_of.Goals as goal

pub returns : goal.returns
returns c =
    let h = c.args.h in
    let f : SFits w32 h.ch_sequence = record { sfits = c.struct_told-1.given.1.1.1.1.1.1.1.1.1.1.1.1.0.1 } in
    let e : c.to_word.result ≡ sequence_word h = c.to_word.ensures ∙ ap (of_z w32) (to_z-of_z w32 h.ch_sequence f) in
    (e, rw e (of_z_fits w32 h.ch_sequence f).fits)
