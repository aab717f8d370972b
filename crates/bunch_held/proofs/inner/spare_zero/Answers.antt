-- Only a byte that is not whole has spare bits.
use mathlib.Core.Path.{sym}
use Rattle.bunch_held.proofs.Passing.{no_spare, some_spare}
use Rattle.bunch_held.proofs.inner.spare_zero.Goals as goal

pub returns-then-rest-eq0 : goal.returns-then-rest-eq0
returns-then-rest-eq0 c = let a = c.args in sym (no_spare a.arena.now a.start a.bits c.if-rest-eq0.true)

pub returns : goal.returns
returns c = let a = c.args in some_spare a.arena.now a.start a.bits c.if-rest-eq0.false
