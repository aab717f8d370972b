-- What each call of `put` leaves.
use mathlib.Core.Path.{◌≡◌}
use lib.ListN.{length, length-set}
use Rattle.exports_bunch_words.proofs.Joining.{joined_words}
use borrow.Author.Rules.{rules}
use Rattle.exports_bunch_words.proofs.fragments.joined.Goals as goal

pub put-requires-3 : goal.put-requires-3
put-requires-3 c = simp length-set (search rules)

pub returns : goal.returns
returns c =
    let x = c.args in
    let p : length x.r ≡ 28 = search rules in
    let q : length x.d ≡ 23 = search rules in
    let s : length x.e ≡ 23 = search rules in
    joined_words x.s.number x.s.returned x.a.active x.a.total_buffered_bits x.n x.r x.d x.e p q s
    c.put.ensures
    c.put-2.ensures
    c.put-3.ensures
