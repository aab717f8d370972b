-- The test tells the patterns that stand for no number: the laws of Floats.
use lib.Ieee.{binary32}
use mathlib.Core.Path.{sym}
use Rattle.bitio_bits.proofs.Floats.{no_number_is, a_number, not_nan}
use Rattle.bitio.proofs.reads.as_single.Goals as goal

pub returns-then-v-gt-F32_INFINITY : goal.returns-then-v-gt-F32_INFINITY
returns-then-v-gt-F32_INFINITY c = sym (no_number_is binary32 c.args.v c.if-v-gt-F32_INFINITY.true)

pub float_from_bits-result : goal.float_from_bits-result
float_from_bits-result c = not_nan binary32 c.args.v c.if-v-gt-F32_INFINITY.false

pub returns : goal.returns
returns c = sym (a_number binary32 c.args.v c.if-v-gt-F32_INFINITY.false)
