-- The loop is Copied's step.
use Rattle.std.proofs.Common.{arith}
use Rattle.listing.proofs.Ending.{begins, one_more}
use Rattle.listing.proofs.inner.said.word.Goals as goal

pub loop-i-init : goal.loop-i-init
loop-i-init c = begins c.args.out.now c.args.text.now

pub loop-i-preserved : goal.loop-i-preserved
loop-i-preserved c = one_more c.loop-i.invariant (omega arith)
