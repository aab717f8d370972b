-- The test is the definition.
use Rattle.bitio_window.specs.Windows.{at_end}
use mathlib.Core.Path.{refl}
use Rattle.bitio.proofs.windows.at_end.Goals as goal

pub returns : goal.returns
unfolding at_end
returns c = refl
