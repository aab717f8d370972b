-- A signal came first.
use mathlib.Core.Path.{refl, sym, ◌∙◌}
use Rattle.listing.proofs.inner.moved.after_write.Goals as goal

pub returns-in-Err : goal.returns-in-Err
returns-in-Err c = rw (c.in-Err.is, sym c.is_interrupted.ensures ∙ c.if-is_interrupted.true) refl
