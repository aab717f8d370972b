-- Word by word; the header and the cause by their own functions.
use mathlib.Core.Path.{refl}
use Rattle.exports_bunch_words.proofs.fragments.of_displaced.Goals as goal

pub returns : goal.returns
returns c = rw (c.put.ensures, c.of_header-h.ensures, c.cause_word-which.ensures, c.cause_value-value.ensures) refl
