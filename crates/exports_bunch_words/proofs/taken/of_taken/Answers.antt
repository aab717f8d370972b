-- Each case, by what the match told.
use mathlib.Core.Path.{◌≡◌, refl}
use Rattle.std.proofs.Common.{Some, None}
use Rattle.exports_bunch_words.specs.Handed.{handed_words}
use Rattle.exports_bunch_words.proofs.taken.of_taken.Goals as goal

pub returns-in-Ok-Some : goal.returns-in-Ok-Some
unfolding handed_words
returns-in-Ok-Some c = λ m o.
    let p : c.in-Ok-Some.field-0 ≡ Some c.in-Ok-Some.message = rw c.in-Ok-Some.is at c.in-Ok-Some.field-0-is in
    rw (c.in-Ok-Some.is, p, c.put.ensures, c.of_header-h.ensures) refl

pub returns-in-Ok-None : goal.returns-in-Ok-None
unfolding handed_words
returns-in-Ok-None c = λ m o.
    let p : c.in-Ok-None.field-0 ≡ None = rw c.in-Ok-None.is at c.in-Ok-None.field-0-is in
    rw (c.in-Ok-None.is, p) refl

pub returns-in-Err : goal.returns-in-Err
unfolding handed_words
returns-in-Err c = λ m o. rw (c.in-Err.is, c.said-s.ensures) refl
