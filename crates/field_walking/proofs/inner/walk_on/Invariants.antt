use Rattle.field_walking.specs.Records.{look, bits_left}
use Rattle.field_walking.proofs.Going.{Going}
use Rattle.field_walking.proofs.inner.walk_on.Given as goal

abbrev pub invariant-loop-bits : goal.invariant-loop-bits
invariant-loop-bits l = Going (look l.kind) l.bytes l.fn.w l.fn.records l.records l.w l.count

abbrev pub decreases-loop-bits : goal.decreases-loop-bits
decreases-loop-bits l = bits_left l.w
