-- The test tells the patterns that stand for no number: the laws of Floats.
use lib.Ieee.{binary64}
use mathlib.Core.Path.{sym}
use Rattle.bitio_bits.proofs.Floats.{no_number_is, a_number, not_nan}
use Rattle.bitio.proofs.reads.as_double.Goals as goal

pub returns-then-v-gt-F64_INFINITY : goal.returns-then-v-gt-F64_INFINITY
returns-then-v-gt-F64_INFINITY c = sym (no_number_is binary64 c.args.v c.if-v-gt-F64_INFINITY.true)

pub float_from_bits-result : goal.float_from_bits-result
float_from_bits-result c = not_nan binary64 c.args.v c.if-v-gt-F64_INFINITY.false

pub returns : goal.returns
returns c = sym (a_number binary64 c.args.v c.if-v-gt-F64_INFINITY.false)
