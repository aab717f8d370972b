use Rattle.std.proofs.Common.{◌≡◌, drop}
use Rattle.bench_bunch.specs.Chains.{summed}
use Rattle.bench_bunch.proofs.inner.total.Given as goal

abbrev pub invariant-loop-word : goal.invariant-loop-word
invariant-loop-word l = summed l.sum (drop l.word-index l.words) ≡ summed l.from l.words
