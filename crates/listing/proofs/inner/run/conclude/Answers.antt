-- After a failed write nothing more; else the last line's text, and what the flush makes of the ending.
use Rattle.std.proofs.Common.{refl}
use Rattle.log_lines.specs.Texts.{written}
use Rattle.listing.proofs.inner.run.conclude.Goals as goal

pub returns : goal.returns
unfolding written
returns g c = (rw (c.in-Some.is, c.in-WriteFailed.is) refl, rw c.in-WriteFailed.is tt)
