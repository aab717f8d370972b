-- The loop of Packing, and the last byte after it.
use native.Mathlib.Omega.{arith}
use Rattle.writer_spelling.proofs.Packing.{begins, goes_on, ends}
use Rattle.writer_spelling.proofs.inner.Bits.packed.Goals as goal

pub loop-rest-init : goal.loop-rest-init
loop-rest-init c = begins c.args.self c.args.number c.requires.0 (omega arith)

pub loop-rest-preserved : goal.loop-rest-preserved
loop-rest-preserved c = goes_on c.loop-rest.invariant (omega arith) c.add-to.ensures

pub returns : goal.returns
returns c = ends c.loop-rest.invariant (omega arith) c.add.ensures
