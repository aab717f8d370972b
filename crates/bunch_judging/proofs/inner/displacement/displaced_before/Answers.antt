-- The message in its place.
use mathlib.Core.Path.{refl}
use Rattle.bunch_judging.proofs.inner.displacement.displaced_before.Goals as goal

pub returns-in-Some : goal.returns-in-Some
returns-in-Some c bytes = rw (c.in-Some.is, c.message.ensures bytes) refl
