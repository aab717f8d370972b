use Prim.Native.Nat.{◌+◌, ◌≤◌}
use Rattle.tables.specs.Search.{Near}
use Rattle.tables.proofs.inner.count.Given as goal

abbrev pub invariant-loop-one : goal.invariant-loop-one
invariant-loop-one l = (l.k ≤ l.one-index) × Near l.held (l.from + l.one-index) l.channel (l.from + l.k) 0
