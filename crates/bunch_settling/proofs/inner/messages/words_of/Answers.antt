-- The words from the fifth on are what is left of the place.
use mathlib.Core.Path.{◌≡◌}
use native.Mathlib.Omega.{arith}
use lib.ListN.{length}
use Rattle.bunch_held.proofs.Words.{words_from, words_rest}
use borrow.Author.Rules.{rules}
use Rattle.bunch_settling.proofs.inner.messages.words_of.Goals as goal

pub returns : goal.returns
unfolding words_from
returns c = let n : length c.args.p ≡ 24 = search rules in words_rest 20 4 c.args.p (omega (arith, n))
