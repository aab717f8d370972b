-- The words of what is answered.
use Rattle.std.proofs.Common.{sym, refl}
use Rattle.bench_bunch.specs.Chains.{summed}
use Rattle.bench_bunch.proofs.inner.with_added.Goals as goal

pub returns-in-Ok : goal.returns-in-Ok
returns-in-Ok c = rw (c.in-Ok.is, sym c.of_result-words.ensures) c.total.ensures

pub returns-in-Err : goal.returns-in-Err
unfolding summed
returns-in-Err c = rw c.in-Err.is refl
