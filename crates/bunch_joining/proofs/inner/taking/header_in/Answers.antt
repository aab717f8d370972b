-- The header that the words say.
use mathlib.Core.Path.{◌∙◌, ap}
use Rattle.words.specs.Words.{header_from}
use Rattle.bunch_joining.proofs.inner.taking.header_in.Goals as goal

pub returns : goal.returns
returns c = c.header_of.ensures ∙ ap header_from c.words_of.ensures
