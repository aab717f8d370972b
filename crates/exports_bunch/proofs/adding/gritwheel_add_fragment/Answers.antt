-- The words of what the call answers, and what it left in the lent memory.
use borrow.Author.Rules.{rules}
use Rattle.exports_bunch.proofs.Told.{told_added}
use Rattle.exports_bunch.proofs.adding.gritwheel_add_fragment.Goals as goal

pub returns : goal.returns
returns c = let answer = c.add_fragment-answer in told_added (search rules) (search rules) (search rules) answer.result answer.new.a (rw c.header_of-h.ensures at answer.ensures.reply) c.of_added.ensures
