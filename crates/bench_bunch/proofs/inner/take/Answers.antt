-- The inner form says and leaves what the call does.
use Rattle.bunch_settling.specs.Settling.{settled_memory}
use Rattle.bunch_held.specs.Steps.{taking, locally, local}
use Rattle.bench_bunch.proofs.Turning.{calls}
use Rattle.bench_bunch.proofs.inner.take.Goals as goal

pub returns-clause-runs : goal.returns-clause-runs
unfolding locally local
returns-clause-runs c =
    let m = settled_memory c.args.s.now in
    (calls c.args.s.now.accumulator m c.requires c.args.ch_index taking c.args.output.now c.args.sum c.take_completed-answer.ensures.gives c.with_taken.ensures, c.take_completed-answer.ensures.gives.goes_on)
