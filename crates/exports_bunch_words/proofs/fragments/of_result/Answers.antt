-- Word by word; the header, the limit and the kind by their own functions.
use mathlib.Core.Path.{refl}
use Rattle.exports_bunch_words.proofs.fragments.of_result.Goals as goal

pub returns : goal.returns
returns c = rw (c.put-2.ensures, c.put.ensures, c.of_header-h.ensures, c.limit-reached.ensures, c.kind_word-wrong.ensures) refl
