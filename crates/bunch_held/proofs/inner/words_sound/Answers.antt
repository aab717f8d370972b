-- A place has 24 words by its type.
use mathlib.Core.Path.{◌≡◌}
use lib.ListN.{length}
use borrow.Author.Tests.{eq-eqb}
use borrow.Author.Rules.{rules}
use Rattle.bunch_held.proofs.inner.words_sound.Goals as goal

pub returns : goal.returns
returns c =
    let p = c.args.p in
    let h : length p ≡ 24 = search rules in
    rw (eq-eqb (length p) 24 h)
