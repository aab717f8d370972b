-- The standing is what the place says, whatever its bytes are.
use mathlib.Core.Path.{refl}
use Rattle.bunch_held.specs.Memory.{held_at}
use Rattle.bunch_settling.proofs.inner.fragments.standing_of.Goals as goal

pub returns : goal.returns
unfolding held_at
returns c = ((λ bytes. refl), refl)
