-- Each way out is one law of Records, at what the handle's read gave.
use mathlib.Core.Path.{sym, ◌∙◌}
use Rattle.field_walking.proofs.Handed.{handed_on}
use Rattle.field_walking.proofs.Records.{call_refused, call_abandons, call_goes_on}
use Rattle.field_walking.proofs.inner.call.Goals as goal

pub returns-in_err-handle : goal.returns-in_err-handle
returns-in_err-handle c =
    let a = c.args in
    let e = c.in_err-handle.ensures in
    rw (handed_on c.from_residual.result c.in_err-handle.field-0.0 c.serialized.new.w c.from_residual.ensures.1) (sym (call_refused a.bytes.now a.w.now a.max (sym e.0)), e.1)

pub returns-then-left-lt8 : goal.returns-then-left-lt8
returns-then-left-lt8 c =
    let a = c.args in
    let e = c.in_ok-handle.ensures in
    (sym (call_abandons a.bytes.now a.w.now a.max (sym e.0) (rw c.left.ensures at c.if-left-lt8.true)), e.1)

pub returns : goal.returns
returns c =
    let a = c.args in
    let e = c.in_ok-handle.ensures in
    (c.counted.ensures.0 ∙ sym (call_goes_on a.bytes.now a.w.now a.max (sym e.0) (rw c.left.ensures at c.if-left-lt8.false)), c.counted.ensures.1)
