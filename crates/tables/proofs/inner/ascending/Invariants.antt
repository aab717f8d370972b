use mathlib.Core.Path.{◌≡◌}
use Prim.Native.Nat.{◌+◌, ◌≤◌}
use lib.ListN.{take}
use Rattle.tables.specs.Columns.{ascending}
use Rattle.tables.proofs.inner.ascending.Given as goal

abbrev pub invariant-loop-i : goal.invariant-loop-i
invariant-loop-i l = (l.i ≤ l.live + 1) × (l.ok ≡ ascending (take l.i l.channels))
