-- `by_number` where few numbers are free; else the steps hand `Near` on.
use native.Mathlib.Omega.{arith}
use Rattle.tables.proofs.Searches.{last_high, by_number}
use Rattle.tables.proofs.inner.near.Goals as goal

pub overflow_sub-free-2 : goal.overflow_sub-free-2
overflow_sub-free-2 c =
    omega (arith, last_high c.args.held.now c.requires.0 c.requires.1)

pub returns-then-free-le8 : goal.returns-then-free-le8
returns-then-free-le8 c =
    by_number c.args.held.now c.requires.0 c.args.channel _ c.min.result 8 c.requires.1 (omega arith) c.if-free-le8.true (omega arith)
