-- What the call that it makes says, as it says it.
use mir.Syntax.{w32}
use mir.ValLaws.{to_z-of_z}
use Rattle.exports_packet_c.proofs.gritwheel_read_bunch.Goals as goal

pub returns : goal.returns
returns c = rw (to_z-of_z w32 c.args.packet_id c.ranges.packet_id) at c.gritwheel_read_bunch.ensures
