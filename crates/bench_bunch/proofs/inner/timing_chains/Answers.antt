-- What is still to come is what the whole comes to, over memory that the next turn can go on with.
use Rattle.std.proofs.Common.{◌≡◌, ◌+◌, ◌-◌, ◌*◌, ◌%◌, length, refl, ◌∙◌, arith, rules}
use Rattle.bunch_settling.specs.Settling.{settled_memory}
use Rattle.bench_bunch.specs.Chains.{run}
use Rattle.bench_bunch.proofs.Running.{turn_after, turns_end, turns_begin, ended}
use Rattle.bench_bunch.proofs.inner.timing_chains.Invariants.{going}
use Rattle.bench_bunch.proofs.inner.timing_chains.Goals as goal

pub loop-k-init : goal.loop-k-init
loop-k-init c = (turns_begin _ _ _, (search rules, (record { channels = refl; places = refl; arena = refl }, refl)))

pub loop-k-preserved : goal.loop-k-preserved
loop-k-preserved c =
    let l = c.loop-k in
    let x = c.args in
    let cut : l.k % 61 * 1000 + 1000 - l.k % 61 * 1000 ≡ 1000 = omega arith in (
      turn_after (going x.payloads.now x.headers.now) (length x.headers.now) l.k (run l.s.accumulator (settled_memory l.s) l.output l.sum) l.invariant.0 (rw cut at c.one-sum.ensures.runs.0) (search rules),
      (c.one-sum.ensures.runs.1, (search rules, c.output-1.given ∙ l.invariant.1.1.1)),
    )

pub returns : goal.returns
returns c =
    let l = c.loop-k in
    let x = c.args in
    rw c.counts-left.ensures
    (ended l.s.accumulator
    (turns_end (going x.payloads.now x.headers.now) (length x.headers.now) l.k (run l.s.accumulator (settled_memory l.s) l.output l.sum) l.invariant.0 (search rules))
    l.invariant.1.0 (search rules) (search rules) (search rules))

pub shape_of-output : goal.shape_of-output
shape_of-output c = c.loop-k.invariant.1.1.1
