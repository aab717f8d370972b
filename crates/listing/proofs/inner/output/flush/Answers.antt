-- No write takes more than is left, and each takes up where the one before ended.
use Rattle.std.proofs.Common.{sym, ◌∙◌}
use Rattle.listing.proofs.Known.{appends_more}
use Rattle.listing.proofs.Writes.{moved_on, no_signal}
use Rattle.listing.proofs.inner.output.flush.Goals as goal

pub again-preserved : goal.again-preserved
again-preserved g c =
    let e = moved_on c.write_once.result c.in-Ok.count (sym c.after_write.ensures ∙ c.in-Ok.is) in
    (rw e at c.write_once.ensures.within, appends_more _ _ _ _ _ _ c.again.invariant.1 (rw e at c.write_once.ensures.out))

pub returns-in-Err-clause-again : goal.returns-in-Err-clause-again
returns-in-Err-clause-again g c = no_signal c.write_once.result c.in-Err.error (sym c.after_write.ensures ∙ c.in-Err.is)
