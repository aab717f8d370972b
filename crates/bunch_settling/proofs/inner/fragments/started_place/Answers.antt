-- The header's words behind the four of the message.
use mathlib.Core.Path.{refl}
use Rattle.bunch_settling.proofs.inner.fragments.started_place.Goals as goal

pub returns : goal.returns
returns c = rw c.of_header-w.ensures refl
