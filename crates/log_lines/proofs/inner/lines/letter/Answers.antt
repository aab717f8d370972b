-- Two bytes in a row.
use Rattle.log_lines.proofs.Texts.{then}
use Rattle.log_lines.proofs.inner.lines.letter.Goals as goal

pub returns : goal.returns
returns c = then c.byte-text.ensures c.byte.ensures
