-- The packet's line, of its sums.
use mir.Syntax.{w32}
use mir.ValLaws.{to_z-of_z}
use Rattle.log_telling.proofs.inner.close.Goals as goal

pub returns : goal.returns
returns c = rw (to_z-of_z w32 c.args.id c.ranges.id) at c.packet_line.ensures
