-- The flag's word.
use mathlib.Core.Path.{refl}
use Rattle.bunch.proofs.inner.is_finished.Goals as goal

pub returns : goal.returns
returns c = refl
