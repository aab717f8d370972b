use Rattle.writer_spelling.proofs.Packing.{Packing}
use Rattle.writer_spelling.proofs.inner.Bits.packed.Given as goal

abbrev pub invariant-loop-rest : goal.invariant-loop-rest
invariant-loop-rest l = Packing l.initial.to l.initial.rest l.to l.rest

abbrev pub decreases-loop-rest : goal.decreases-loop-rest
decreases-loop-rest l = l.rest
