-- The tests, the count, and the walk.
use mathlib.Core.Path.{sym, ◌∙◌}
use lib.Dec.{eqb}
use Rattle.bitio_window.specs.Refusals.{unresolved}
use Rattle.bitio_window.specs.Parse.{refuse_if}
use Rattle.bitio_window.specs.Reads.{sound}
use Rattle.bitio_window.proofs.Rows.{next_refused}
use Rattle.bitio.proofs.Tests.{went_on, tested}
use Rattle.field_walking.specs.Records.{look}
use Rattle.field.proofs.Opens.{cache_refused, cache_opened, no_count, some_count}
use Rattle.field.proofs.walks.parse_class_net_cache.Goals as goal

pub returns-in-Err : goal.returns-in-Err
returns-in-Err c =
    let a = c.args in
    let n = a.function_count in
    rw (c.refused.ensures, c.into.ensures)
    (cache_refused a.bytes.now a.w.now n a.records.now (next_refused a.bytes.now a.w.now sound (refuse_if (eqb n 0) unresolved) (sym c.in-Err.ensures)))

pub returns-then-function_count-eq0 : goal.returns-then-function_count-eq0
returns-then-function_count-eq0 c =
    let a = c.args in
    let n = a.function_count in
    rw c.refused-then-function_count-eq0.ensures
    (cache_refused a.bytes.now a.w.now n a.records.now
    (went_on a.bytes.now a.w.now (refuse_if (eqb n 0) unresolved) c.in_default.ensures ∙ no_count a.bytes.now a.w.now n c.if-function_count-eq0.true))

pub walk-requires : goal.walk-requires
walk-requires c = tested c.args.bytes.now c.args.w.now c.in_default.ensures

pub returns : goal.returns
unfolding look
returns c =
    let a = c.args in
    let n = a.function_count in
    c.walk.ensures
    ∙ cache_opened a.bytes.now a.w.now n a.records.now
    (went_on a.bytes.now a.w.now (refuse_if (eqb n 0) unresolved) c.in_default.ensures ∙ some_count a.bytes.now a.w.now n c.if-function_count-eq0.false)
