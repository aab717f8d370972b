-- A flush whose write failed says nothing of room, and any other of no end.
use Rattle.listing.proofs.inner.output.with_room.Goals as goal

pub returns-in-Ok-clause-ended : goal.returns-in-Ok-clause-ended
returns-in-Ok-clause-ended g c = tt

pub returns-in-Err-clause-out : goal.returns-in-Err-clause-out
returns-in-Err-clause-out g c = tt
