-- A word, a number and a newline.
use Rattle.std.proofs.Common.{arith}
use Rattle.log_lines.proofs.Texts.{then, at_most}
use Rattle.listing.proofs.inner.said.one_number.Goals as goal

pub returns : goal.returns
returns c = at_most (then c.word-behind.ensures (then c.number-only.ensures c.byte.ensures)) 34 (omega (arith, c.requires.0))
