-- A listing that did not end has no line.
use Rattle.listing.proofs.Ending.{no_text}
use Rattle.listing.proofs.inner.said.outcome_line.Goals as goal

pub returns-in-None : goal.returns-in-None
returns-in-None c = rw c.in-None.is (no_text _ _)
