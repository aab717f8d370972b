-- Both cases, by what the match told.
use mathlib.Core.Path.{refl}
use Rattle.bitio_window.specs.Refusals.{unfit}
use Rattle.exports_bunch.specs.Opening.{limits_words}
use Rattle.exports_bunch.proofs.opening.of_opened.Goals as goal

pub returns-in-Ok : goal.returns-in-Ok
unfolding limits_words
returns-in-Ok c = rw c.in-Ok.is refl

pub returns-in-Err : goal.returns-in-Err
unfolding limits_words unfit
returns-in-Err c = rw c.in-Err.is refl
