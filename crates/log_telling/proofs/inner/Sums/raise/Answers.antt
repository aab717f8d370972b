-- Each sum is of its own count.
use mathlib.Core.Path.{refl}
use Rattle.log_telling.proofs.inner.Sums.raise.Goals as goal

pub returns : goal.returns
returns c = rw (c.from.ensures, c.from-2.ensures, c.from-3.ensures, c.from-4.ensures) refl
