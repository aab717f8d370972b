-- Case by case: a listing that goes on, one that a failed write ended, and any other that has ended.
use mathlib.Core.Path.{refl}
use Rattle.listing.proofs.inner.outcome.is_over.Goals as goal

pub returns-in-None : goal.returns-in-None
returns-in-None c = rw c.in-None.is refl

pub returns-in-Some-WriteFailed : goal.returns-in-Some-WriteFailed
returns-in-Some-WriteFailed c = rw c.in-Some-WriteFailed.is refl

pub returns-in-Some : goal.returns-in-Some
returns-in-Some c = rw c.in-Some.is refl
