-- The words of what the call answers, and what it left in the lent memory.
use borrow.Author.Rules.{rules}
use Rattle.exports_bunch.proofs.Told.{told_taken}
use Rattle.exports_bunch.proofs.handing.gritwheel_retire_channel.Goals as goal

pub returns : goal.returns
returns c = let answer = c.retire_channel-answer in told_taken (search rules) (search rules) (search rules) answer.result answer.new.a answer.ensures.reply c.of_taken.ensures
