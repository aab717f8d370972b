-- The definition, word for word.
use Rattle.packet.proofs.packets.fitting.Goals as goal

pub returns : goal.returns
returns c = rw c.in_limit.ensures
