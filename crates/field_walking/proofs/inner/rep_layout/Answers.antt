-- Each way out is one law of Records, at what the handle's read gave.
use mathlib.Core.Path.{sym, ◌∙◌}
use Rattle.field_walking.proofs.Handed.{handed_on}
use Rattle.field_walking.proofs.Records.{rep_refused, rep_ends, rep_goes_on}
use Rattle.field_walking.proofs.inner.rep_layout.Goals as goal

pub returns-in_err-code : goal.returns-in_err-code
returns-in_err-code c =
    let a = c.args in
    let e = c.in_err-code.ensures in
    rw (handed_on c.from_residual.result c.in_err-code.field-0.0 c.packed.new.w c.from_residual.ensures.1) (sym (rep_refused a.bytes.now a.w.now (sym e.0)), e.1)

pub returns-then-code-eq0 : goal.returns-then-code-eq0
returns-then-code-eq0 c =
    let e = c.in_ok-code.ensures in
    (sym (rep_ends c.args.bytes.now c.args.w.now (sym e.0) c.if-code-eq0.true), e.1)

pub returns : goal.returns
returns c =
    let e = c.in_ok-code.ensures in
    (c.counted.ensures.0 ∙ sym (rep_goes_on c.args.bytes.now c.args.w.now (sym e.0) c.if-code-eq0.false), c.counted.ensures.1)
