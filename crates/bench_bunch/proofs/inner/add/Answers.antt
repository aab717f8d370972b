-- The inner form says and leaves what the call does.
use Rattle.bunch_settling.specs.Settling.{settled_memory}
use Rattle.bunch_held.specs.Steps.{adding}
use Rattle.bench_bunch.proofs.Turning.{calls}
use Rattle.bench_bunch.proofs.inner.add.Goals as goal

pub returns-clause-runs : goal.returns-clause-runs
returns-clause-runs c =
    let m = settled_memory c.args.s.now in
    let h = c.args.header in
    let f = adding (record { header = h; bits = h.payload_bit_count; payload = c.args.payload.now }) in
    (calls c.args.s.now.accumulator m c.requires h.ch_index f c.args.output.now c.args.sum c.add_fragment-answer.ensures.gives c.with_added.ensures, c.add_fragment-answer.ensures.gives.goes_on)
