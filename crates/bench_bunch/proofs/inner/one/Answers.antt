-- One call, or two.
use Rattle.std.proofs.Common.{◌∙◌}
use Rattle.bunch_settling.specs.Settling.{settled_memory}
use Rattle.bench_bunch.specs.Chains.{run}
use Rattle.bench_bunch.proofs.Turning.{goes_on, ends}
use Rattle.bench_bunch.proofs.inner.one.Goals as goal

pub returns-then-header-clause-runs : goal.returns-then-header-clause-runs
returns-then-header-clause-runs c =
    let x = c.args in
    (ends x.payload.now x.words (run x.s.now.accumulator (settled_memory x.s.now) x.output.now x.sum) c.header_of-header.result c.header_of-header.ensures c.add-added.ensures.runs.0 c.if-header.true c.take.ensures.runs.0, c.take.ensures.runs.1)

pub returns-clause-runs : goal.returns-clause-runs
returns-clause-runs c =
    let x = c.args in
    (goes_on x.payload.now x.words (run x.s.now.accumulator (settled_memory x.s.now) x.output.now x.sum) c.header_of-header.result c.header_of-header.ensures c.add-added.ensures.runs.0 c.if-header.false, c.add-added.ensures.runs.1)

pub shape_of-output-then-header : goal.shape_of-output-then-header
shape_of-output-then-header c = c.output-then-header-1.given ∙ c.output-1.given

pub shape_of-output : goal.shape_of-output
shape_of-output c = c.output-1.given
