-- A word, made a float.
use mathlib.Core.Path.{ap, ◌∙◌}
use lib.Ieee.{binary32}
use Rattle.bitio_bits.specs.Floats.{Decoded, decoded}
use Rattle.bitio_window.specs.Parse.{got}
use Rattle.bitio_window.specs.Reads.{read_bits, read_f32}
use Rattle.bitio.proofs.Values.{made, not_made, float_refused}
use Rattle.bitio.proofs.reads.read_f32.Goals as goal

pub returns-in_err-pattern : goal.returns-in_err-pattern
unfolding read_f32
returns-in_err-pattern c =
    float_refused c.from_residual.result c.in_err-pattern.field-0.0 _ c.from_residual.ensures.1 ∙ not_made (read_bits 32) (decoded binary32) _ _ c.in_err-pattern.ensures

pub returns : goal.returns
unfolding read_f32
returns c = ap (λ (x : Decoded). got x c.read_u32.new.w) c.as_single.ensures ∙ made (read_bits 32) (decoded binary32) _ _ c.in_ok-pattern.ensures
