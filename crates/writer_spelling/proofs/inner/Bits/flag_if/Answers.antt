-- A flag is a number of one bit.
use Rattle.writer_spelling.proofs.Spelling.{flag_bits}
use Rattle.writer_spelling.proofs.inner.Bits.flag_if.Goals as goal

pub returns : goal.returns
returns c = rw (c.only_if.ensures.0, flag_bits c.args.value) at c.add_if.ensures
