-- A word, made signed.
use mathlib.Core.Path.{ap, ◌∙◌}
use lib.IntN.{ℤ}
use mir.Syntax.{w32}
use mir.ValLaws.{to_z-of_z}
use Rattle.bitio_bits.specs.Floats.{signed}
use Rattle.bitio_window.specs.Parse.{got}
use Rattle.bitio_window.specs.Reads.{read_bits, read_i32}
use Rattle.bitio_window.proofs.Handed.{handed_on}
use Rattle.bitio.proofs.Values.{made, not_made}
use Rattle.bitio.proofs.reads.read_i32.Goals as goal

pub returns-in_err-read_u32 : goal.returns-in_err-read_u32
unfolding read_i32
returns-in_err-read_u32 c =
    handed_on c.from_residual.result c.in_err-read_u32.field-0.0 _ c.from_residual.ensures.1 ∙ not_made (read_bits 32) signed _ _ c.in_err-read_u32.ensures

pub returns : goal.returns
unfolding read_i32
returns c =
    ap (λ (z : ℤ). got z c.read_u32.new.w) (to_z-of_z w32 _ (record { sfits = c.of_word.type_inv }) ∙ c.of_word.ensures)
    ∙ made (read_bits 32) signed _ _ c.in_ok-read_u32.ensures
