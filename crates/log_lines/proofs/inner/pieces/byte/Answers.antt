-- One store.
use Rattle.log_lines.proofs.Texts.{one_byte}
use Rattle.log_lines.proofs.inner.pieces.byte.Goals as goal

pub returns : goal.returns
returns c = one_byte c.args.out.now c.args.at c.args.value
