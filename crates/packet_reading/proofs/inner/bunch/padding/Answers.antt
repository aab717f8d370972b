-- A byte that is not 0 has a bit set.
use native.Mathlib.Omega.{arith}
use lib.Count.{leading_top}
use Rattle.packet_reading.proofs.inner.bunch.padding.Goals as goal

pub returns : goal.returns
returns c = let t = leading_top 8 c.args.last c.requires c.ranges.last.fits in (c.from.ensures, rw c.from.ensures (omega (arith, t.1)))
