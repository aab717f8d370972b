-- The words of what is handed out.
use Rattle.std.proofs.Common.{◌≡◌, Some, None, refl}
use Rattle.bench_bunch.specs.Chains.{summed}
use Rattle.bench_bunch.proofs.Running.{one_more}
use Rattle.bench_bunch.proofs.inner.with_taken.Goals as goal

pub returns-in-Ok-Some : goal.returns-in-Ok-Some
returns-in-Ok-Some c =
    let p : c.in-Ok-Some.field-0 ≡ Some c.in-Ok-Some.message = rw c.in-Ok-Some.is at c.in-Ok-Some.field-0-is in
    rw (c.in-Ok-Some.is, p) (one_more _ _ _ refl c.of_header-words.ensures c.total.ensures)

pub returns-in-Ok-None : goal.returns-in-Ok-None
unfolding summed
returns-in-Ok-None c =
    let p : c.in-Ok-None.field-0 ≡ None = rw c.in-Ok-None.is at c.in-Ok-None.field-0-is in
    rw (c.in-Ok-None.is, p) refl

pub returns-in-Err : goal.returns-in-Err
unfolding summed
returns-in-Err c = rw c.in-Err.is refl
