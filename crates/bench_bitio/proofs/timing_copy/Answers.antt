-- One law for each way through the loop.
use Rattle.std.proofs.Common.{arith, rules}
use Rattle.bitio_window.specs.Copies.{copy_leaves}
use Rattle.bench_bitio.proofs.Rows.{copies, stays, copied_all}
use Rattle.bench_bitio.proofs.timing_copy.Goals as goal

pub returns-in-Err : goal.returns-in-Err
unfolding copy_leaves
returns-in-Err c =
    let copy = c.copy_bits_to.ensures in
    rw c.loop-count.invariant.1 (stays c.loop-count.invariant.0 (search rules) (rw c.in-Err.is at copy.answers) (rw c.in-Err.is at copy.leaves))

pub loop-count-preserved : goal.loop-count-preserved
unfolding copy_leaves
loop-count-preserved c =
    let copy = c.copy_bits_to.ensures in (
      copies c.loop-count.invariant.0 (search rules) (rw c.in-Ok.is at copy.answers) (rw c.in-Ok.is at copy.leaves),
      omega arith,
      omega arith,
    )

pub returns : goal.returns
returns c = rw c.loop-count.invariant.1 (copied_all c.loop-count.invariant.0 (search rules))
