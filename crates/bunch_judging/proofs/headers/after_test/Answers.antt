-- Both ways of the test.
use Rattle.bunch_judging.specs.Headers.{after_test}
use Rattle.bunch_judging.proofs.headers.after_test.Goals as goal

pub returns-then-overlaps : goal.returns-then-overlaps
unfolding after_test
returns-then-overlaps c words bytes = rw (← (c.overlaps.ensures words bytes), c.if-overlaps.true) c.erring.ensures

pub returns : goal.returns
unfolding after_test
returns c words bytes = rw (← (c.overlaps.ensures words bytes), c.if-overlaps.false)
