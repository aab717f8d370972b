-- The small numbers first, so that nothing wraps; then the room, counted in bytes.
use Prim.Native.Nat.{ℕ, ◌≤◌}
use mathlib.Core.Path.{◌≡◌}
use mathlib.Core.Bool.{true, ◌&&◌}
use native.Mathlib.Omega.{arith}
use lib.Dec.{leb}
use borrow.Author.Tests.{leb-true}
use Rattle.tables.proofs.Ascending.{both}
use Rattle.bunch_held.proofs.Passing.{room}
use Rattle.bunch_held.proofs.inner.fitting.Goals as goal

-- the numbers are small
small : (active buffered : ℕ) → (leb active 4096 && leb buffered 536870912) ≡ true → (active ≤ 4096) × (buffered ≤ 536870912)
small active buffered e = let s = both (leb active 4096) (leb buffered 536870912) e in (leb-true active 4096 s.0, leb-true buffered 536870912 s.1)

pub overflow_mul-bytes : goal.overflow_mul-bytes
overflow_mul-bytes c = let a = c.args in omega (arith, small a.active a.buffered c.if-active-buffered.true)

pub overflow_add-bytes : goal.overflow_add-bytes
overflow_add-bytes c = let a = c.args in omega (arith, small a.active a.buffered c.if-active-buffered.true)

pub overflow_add-bytes-then-active-buffered : goal.overflow_add-bytes-then-active-buffered
overflow_add-bytes-then-active-buffered c = let a = c.args in omega (arith, small a.active a.buffered c.if-active-buffered.true)

pub returns-then-active-buffered : goal.returns-then-active-buffered
returns-then-active-buffered c = rw (room, c.if-active-buffered.true)

pub returns : goal.returns
returns c = rw c.if-active-buffered.false
