-- The payload on the packet as the header left it.
use Rattle.writer.proofs.inner.append.lay.Goals as goal

pub returns : goal.returns
returns c = rw (← c.lay_header.ensures) c.payload.ensures
