-- The words of what the call answers.
use mathlib.Core.Path.{ap, ◌∙◌}
use Rattle.exports_bunch.specs.Opening.{limits_words}
use Rattle.exports_bunch.proofs.opening.gritwheel_with_limits.Goals as goal

pub returns : goal.returns
returns c = c.of_opened.ensures ∙ ap limits_words c.with_limits-opened.ensures
