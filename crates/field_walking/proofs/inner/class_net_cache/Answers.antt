-- The end, or a call with the maximum at least 2.
use mathlib.Core.Path.{sym, ap, ◌∙◌}
use native.Mathlib.Omega.{arith}
use Rattle.field_walking.specs.Records.{call}
use Rattle.field_walking.proofs.Records.{calls_end, calls_go_on}
use Rattle.field_walking.proofs.inner.class_net_cache.Goals as goal

pub returns-then-left-eq0 : goal.returns-then-left-eq0
returns-then-left-eq0 c =
    (sym (calls_end c.args.bytes.now c.args.w.now c.args.count (omega (arith, c.left.ensures, c.if-left-eq0.true))), c.requires)

pub returns : goal.returns
returns c =
    let a = c.args in
    (c.call.ensures.0 ∙ ap (λ m. call m a.bytes.now a.w.now) c.at_least_two.ensures.0 ∙ sym (calls_go_on a.bytes.now a.w.now a.count (omega (arith, c.left.ensures, c.if-left-eq0.false))), c.call.ensures.1)
