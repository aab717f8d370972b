-- Bytes in a row are a sum of them, the first the highest; the word of the id is made signed.
use mathlib.Core.Path.{ap, ◌∙◌}
use native.Mathlib.Omega.{arith}
use mir.Syntax.{w32}
use mir.ValLaws.{to_z-of_z}
use Rattle.bitio_bits.specs.Floats.{signed}
use Rattle.packet_log.proofs.inner.head.Goals as goal

pub returns : goal.returns
returns c = (omega arith, omega arith, to_z-of_z w32 _ (record { sfits = c.of_word.type_inv }) ∙ c.of_word.ensures ∙ ap signed (omega arith))
