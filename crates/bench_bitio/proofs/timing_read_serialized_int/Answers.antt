-- One law for each way through the loop.
use Rattle.std.proofs.Common.{rules}
use Rattle.bench_bitio.proofs.Rows.{adds, ends, summed}
use Rattle.bench_bitio.proofs.timing_read_serialized_int.Goals as goal

pub returns-in-Err : goal.returns-in-Err
returns-in-Err c = ends c.loop-max.invariant (search rules) (rw c.in-Err.is at c.read_serialized_int.ensures)

pub loop-max-preserved : goal.loop-max-preserved
loop-max-preserved c =
    rw c.into-sum.ensures
    (adds c.loop-max.invariant (search rules) (rw c.in-Ok.is at c.read_serialized_int.ensures))

pub returns : goal.returns
returns c = summed c.loop-max.invariant (search rules)
