-- No message, no bits.
use mathlib.Core.Path.{refl}
use Rattle.bunch_held.specs.Memory.{total}
use Rattle.bunch.proofs.drains.emptied.Goals as goal

pub returns : goal.returns
unfolding total
returns c = refl
