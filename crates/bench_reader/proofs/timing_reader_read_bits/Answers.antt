-- One law for each way through the loop.
use Rattle.std.proofs.Common.{rules}
use Rattle.bench_bitio.proofs.Rows.{adds, ends, summed}
use Rattle.bench_reader.proofs.timing_reader_read_bits.Goals as goal

pub returns-in-Err : goal.returns-in-Err
returns-in-Err c = ends c.loop-width.invariant (search rules) (rw c.in-Err.is at c.read_bits.ensures)

pub loop-width-preserved : goal.loop-width-preserved
loop-width-preserved c =
    adds c.loop-width.invariant (search rules) (rw c.in-Ok.is at c.read_bits.ensures)

pub returns : goal.returns
returns c = summed c.loop-width.invariant (search rules)
