-- What the places so far show is counted: a turn is Counting's `turn`.
use Prim.Native.Nat.{◌≤◌}
use mathlib.Core.Path.{refl}
use native.Mathlib.Omega.{arith}
use lib.ListN.{length, take, length-take}
use Rattle.bunch_held.specs.Memory.{sum_of}
use Rattle.bunch.proofs.Counting.{turn}
use Rattle.bunch.proofs.inner.count.Goals as goal

pub loop-p-init : goal.loop-p-init
unfolding sum_of
loop-p-init c = (refl, refl)

pub overflow_add-messages : goal.overflow_add-messages
overflow_add-messages c =
    let a = c.args in
    let few : length (take a.live a.places.now) ≤ a.live = rw length-take (omega arith) in
    omega (arith, turn (take a.live a.places.now) c.loop-p.p-index (omega arith), few, c.requires, c.loop-p.invariant, c.shown_count-messages.ensures)

pub shown_size-bytes-requires : goal.shown_size-bytes-requires
shown_size-bytes-requires c =
    let a = c.args in
    omega (arith, turn (take a.live a.places.now) c.loop-p.p-index (omega arith), c.requires)

pub overflow_add-bytes : goal.overflow_add-bytes
overflow_add-bytes c =
    let a = c.args in
    let few : length (take a.live a.places.now) ≤ a.live = rw length-take (omega arith) in
    omega (arith, turn (take a.live a.places.now) c.loop-p.p-index (omega arith), few, c.requires, c.loop-p.invariant, c.shown_size-bytes.ensures)

pub loop-p-preserved : goal.loop-p-preserved
loop-p-preserved c =
    let a = c.args in
    let t = turn (take a.live a.places.now) c.loop-p.p-index (omega arith) in
    (omega (arith, t.messages, c.loop-p.invariant, c.shown_count-messages.ensures), omega (arith, t.bytes, c.loop-p.invariant, c.shown_size-bytes.ensures))
