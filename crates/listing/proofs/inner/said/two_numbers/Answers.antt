-- A word, two numbers and a newline.
use Rattle.std.proofs.Common.{arith}
use Rattle.log_lines.proofs.Texts.{then, at_most}
use Rattle.listing.proofs.inner.said.two_numbers.Goals as goal

pub returns : goal.returns
returns c = at_most (then c.word-first.ensures (then c.number-second.ensures (then c.number-third.ensures c.byte.ensures))) 55 (omega (arith, c.requires.0))
