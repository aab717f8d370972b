-- No place is 256 or more places from the first of a table that has no more.
use native.Mathlib.Omega.{arith}
use Rattle.tables.proofs.inner.high.Goals as goal

pub returns-then-held-le256 : goal.returns-then-held-le256
returns-then-held-le256 c =
    record {
      within = omega arith;
      below = λ k f. omega arith;
      above = λ k f p. omega (arith, c.if-held-le256.true);
    }
