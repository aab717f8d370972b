-- A new message or the one that is held.
use mathlib.Core.Path.{refl}
use Rattle.bunch_settling.proofs.inner.fragments.put_place.Goals as goal

pub returns-then-anew : goal.returns-then-anew
returns-then-anew c = rw (c.if-anew.true, c.started_place.ensures) refl

pub returns : goal.returns
returns c = rw c.if-anew.false c.join_place.ensures
