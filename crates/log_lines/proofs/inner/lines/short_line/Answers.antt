-- A letter, a number and a newline.
use Rattle.log_lines.proofs.Texts.{then}
use Rattle.log_lines.proofs.inner.lines.short_line.Goals as goal

pub returns : goal.returns
returns c = then c.byte-first.ensures (then c.number-second.ensures c.byte.ensures)
