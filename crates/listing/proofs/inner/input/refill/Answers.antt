-- A read keeps what was left, and adds what it brought.
use Rattle.std.proofs.Common.{refl, arith}
use Rattle.listing.proofs.inner.input.refill.Goals as goal

pub returns-clause-part : goal.returns-clause-part
returns-clause-part g c = (
  record { inside = omega (arith, c.read_more-moved.ensures.within, c.unwrap_or.ensures) },
  record { begins = refl; holds = omega (arith, c.unwrap_or.ensures) },
)
