-- One copy.
use native.Mathlib.Omega.{arith}
use Rattle.log_lines.proofs.Texts.{copied}
use Rattle.log_lines.proofs.inner.pieces.text.Goals as goal

pub returns : goal.returns
returns c = copied c.args.out.now c.args.at _ c.args.bytes.now c.requires (omega arith) c.copy_from_slice.ensures.after
