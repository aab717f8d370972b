-- Both ways of the test.
use Rattle.packet_tracking.specs.Sequences.{unreliable}
use Rattle.packet_reading.proofs.inner.bunch.unreliable.Goals as goal

pub returns-then-f : goal.returns-then-f
unfolding unreliable
returns-then-f c = rw c.if-f.true

pub returns-else-f : goal.returns-else-f
unfolding unreliable
returns-else-f c = rw c.if-f.false
