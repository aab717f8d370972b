-- The low 32 bits of what was read are all of it.
use mathlib.Core.Path.{◌∙◌}
use Rattle.bitio_window.proofs.Handed.{handed_on}
use Rattle.bitio.proofs.Values.{narrowed}
use Rattle.bitio.proofs.reads.read_u32.Goals as goal

pub returns-in_err-read_bits : goal.returns-in_err-read_bits
returns-in_err-read_bits c = handed_on c.from_residual.result c.in_err-read_bits.field-0.0 _ c.from_residual.ensures.1 ∙ c.in_err-read_bits.ensures

pub returns : goal.returns
returns c = narrowed c.args.bytes.now c.args.w.now 32 c.in_ok-read_bits.ensures
