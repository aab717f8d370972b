-- A space, and the digits.
use Rattle.log_lines.proofs.Texts.{then}
use Rattle.log_lines.proofs.inner.pieces.number.Goals as goal

pub returns : goal.returns
returns c = then c.byte-digits.ensures c.printed.ensures
