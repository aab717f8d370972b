-- Written out, so that a wrong body is refused for what it gives.
use mathlib.Core.Path.{◌∙◌}
use mir.Syntax.{w32}
use mir.ValLaws.{to_z-of_z}
use Rattle.bitio_bits.proofs.Signed.{of_the_cast}
use Rattle.bitio_bits.proofs.inner.signed.of_word.Goals as goal

pub returns : goal.returns
returns c = to_z-of_z w32 _ (record { sfits = c.cast_signed.type_inv }) ∙ c.cast_signed.ensures ∙ of_the_cast c.args.v
