-- The words from the next on are to come.
use Rattle.std.proofs.Common.{refl, rules}
use Rattle.bench_bunch.proofs.Running.{sum_on, sum_ends}
use Rattle.bench_bunch.proofs.inner.total.Goals as goal

pub loop-word-init : goal.loop-word-init
loop-word-init c = refl

pub loop-word-preserved : goal.loop-word-preserved
loop-word-preserved c =
    let l = c.loop-word in
    sum_on _ l.sum l.word-index l.invariant (search rules)

pub returns : goal.returns
returns c = sum_ends _ c.loop-word.sum c.loop-word.word-index c.loop-word.invariant (search rules)
