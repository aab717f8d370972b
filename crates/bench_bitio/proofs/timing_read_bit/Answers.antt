-- One law for each way through the loop.
use Rattle.std.proofs.Common.{rules}
use Rattle.bench_bitio.proofs.Rows.{adds, ends, summed}
use Rattle.bench_bitio.proofs.timing_read_bit.Goals as goal

pub returns-in-Err : goal.returns-in-Err
returns-in-Err c = ends c.loop-k.invariant (search rules) (rw c.in-Err.is at c.read_bit.ensures)

pub loop-k-preserved : goal.loop-k-preserved
loop-k-preserved c =
    rw c.into-sum.ensures
    (adds c.loop-k.invariant (search rules) (rw c.in-Ok.is at c.read_bit.ensures))

pub returns : goal.returns
returns c = summed c.loop-k.invariant (search rules)
