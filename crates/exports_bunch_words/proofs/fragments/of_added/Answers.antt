-- Each case, by what the matches told.
use Rattle.exports_bunch_words.specs.Fragments.{fragment_words}
use Rattle.exports_bunch_words.proofs.fragments.of_added.Goals as goal

pub returns-in-Nothing : goal.returns-in-Nothing
unfolding fragment_words
returns-in-Nothing c = λ m o. rw (c.in-Ok.is, c.in-Nothing.is) (rw c.of_result-w.ensures at c.joined.ensures)

pub returns-in-One : goal.returns-in-One
unfolding fragment_words
returns-in-One c = λ m o. rw (c.in-Ok.is, c.in-One.is) (rw (c.of_result-w.ensures, c.of_displaced.ensures) at c.joined-in-One.ensures)

pub returns-in-Two : goal.returns-in-Two
unfolding fragment_words
returns-in-Two c = λ m o. rw (c.in-Ok.is, c.in-Two.is) (rw (c.of_result-w.ensures, c.of_displaced-in-Two.ensures, c.of_displaced-in-Two-2.ensures) at c.joined-in-Two.ensures)

pub returns-in-Err : goal.returns-in-Err
unfolding fragment_words
returns-in-Err c = λ m o. rw c.in-Err.is (rw c.said.ensures at c.joined-in-Err.ensures)
