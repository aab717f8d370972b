-- The bytes of the places so far are counted. Few bits take few bytes, so that the sum stays small.
use Prim.Native.Nat.{◌≤◌}
use mathlib.Core.Path.{refl}
use native.Mathlib.Omega.{arith}
use lib.ListN.{length, take, length-take}
use Rattle.bunch_held.specs.Memory.{sum_of}
use Rattle.bunch_held.proofs.Sums.{turn}
use Rattle.bunch_held.proofs.inner.start_of.Goals as goal

pub loop-p-init : goal.loop-p-init
unfolding sum_of
loop-p-init c = refl

pub bytes_of-start-requires : goal.bytes_of-start-requires
bytes_of-start-requires c =
    let a = c.args in
    omega (arith, turn (take a.i a.places.now) c.loop-p.p-index (omega arith), c.requires)

pub overflow_add-start : goal.overflow_add-start
overflow_add-start c =
    let a = c.args in
    let t = turn (take a.i a.places.now) c.loop-p.p-index (omega arith) in
    let few : length (take a.i a.places.now) ≤ a.i = rw length-take (omega arith) in
    omega (arith, t, few, c.requires, c.loop-p.invariant, c.bytes_of-start.ensures)

pub loop-p-preserved : goal.loop-p-preserved
loop-p-preserved c =
    let a = c.args in
    let t = turn (take a.i a.places.now) c.loop-p.p-index (omega arith) in
    omega (arith, t.more, c.loop-p.invariant, c.bytes_of-start.ensures)
