-- The definition's second clause.
use mathlib.Core.Path.{refl}
use Rattle.bunch_judging.specs.Fates.{overlaps}
use Rattle.bunch_judging.proofs.fates.overlaps.Goals as goal

pub returns-in-Some : goal.returns-in-Some
unfolding overlaps
returns-in-Some c words bytes = rw c.in-Some.is refl
