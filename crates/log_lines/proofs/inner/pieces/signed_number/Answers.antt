-- A space, and what itoa prints: a minus and 10 digits at most.
use mathlib.Core.Path.{◌≡◌, ap, ◌∙◌}
use native.Mathlib.Omega.{arith}
use mir.Syntax.{w32}
use mir.ValLaws.{to_z-of_z}
use Rattle.std.specs.Fmt.{signed_decimal}
use Rattle.log_lines.proofs.Printed.{as_printed_signed, one_signed}
use Rattle.log_lines.proofs.Texts.{then, at_most}
use Rattle.log_lines.proofs.inner.pieces.signed_number.Goals as goal

pub returns : goal.returns
returns c =
    let n = c.args.n in
    let printed : c.as_bytes.result.now ≡ signed_decimal n = c.as_bytes.ensures.value ∙ c.format.ensures.text ∙ ap signed_decimal (to_z-of_z w32 n c.ranges.n) in
    rw (as_printed_signed n c.ranges.n, ← printed) (at_most (then c.byte-sign.ensures c.text.ensures) 12 (omega arith))

pub returns-then-n-lt10 : goal.returns-then-n-lt10
returns-then-n-lt10 c =
    let n = c.args.n in
    let same = to_z-of_z w32 n c.ranges.n in
    let low = rw same at c.if-n-ge0.true in
    let high = rw same at c.if-n-lt10.true in
    let digit = rw same at c.byte.ensures in
    rw (one_signed n low high) (at_most (then c.byte-sign.ensures digit) 12 (omega arith))
