-- X, V or nothing.
use Rattle.listing.proofs.Ending.{no_text}
use Rattle.listing.proofs.inner.said.last_line.Goals as goal

pub returns-in_default : goal.returns-in_default
returns-in_default c = rw c.in_default.is (no_text _ _)

pub returns-in-Ended : goal.returns-in-Ended
returns-in-Ended c = rw (c.in-Some.is, c.in-Ended.is) (no_text _ _)

pub returns-in-ReadFailed : goal.returns-in-ReadFailed
returns-in-ReadFailed c = rw (c.in-Some.is, c.in-ReadFailed.is) (no_text _ _)

pub returns-in-WriteFailed : goal.returns-in-WriteFailed
returns-in-WriteFailed c = rw (c.in-Some.is, c.in-WriteFailed.is) (no_text _ _)
