-- One digit, or what itoa prints: 20 digits at most.
use mathlib.Core.Path.{◌∙◌}
use native.Mathlib.Omega.{arith}
use Rattle.log_lines.proofs.Printed.{one, as_printed}
use Rattle.log_lines.proofs.Texts.{at_most}
use Rattle.log_lines.proofs.inner.pieces.printed.Goals as goal

pub returns-then-n-lt10 : goal.returns-then-n-lt10
returns-then-n-lt10 c = rw (one c.args.n c.if-n-lt10.true) (at_most c.byte.ensures 20 (omega arith))

pub returns : goal.returns
returns c =
    let printed = c.as_bytes.ensures.value ∙ c.format.ensures.text in
    rw (as_printed c.args.n (omega arith), ← printed) (at_most c.text.ensures 20 (omega arith))
