-- The bytes from i on have moved: a turn is Blocks' `moves_block`; what is left is one block more, or a block of i bytes.
use mathlib.Core.Path.{refl, ◌∙◌}
use Prim.Native.Nat.{◌+◌, ◌-◌}
use native.Mathlib.Omega.{arith}
use Rattle.bunch_places.proofs.Pastes.{moves_none}
use Rattle.bunch_places.proofs.Blocks.{moves_block, moves_rest, length_block}
use Rattle.bunch_places.proofs.Overlaps.{moves_over}
use Rattle.bunch_places.proofs.inner.move_up.Goals as goal

pub loop-i-init : goal.loop-i-init
loop-i-init c = let a = c.args in (omega arith, refl, moves_none a.from a.to a.n a.arena.now)

pub loop-i-preserved : goal.loop-i-preserved
loop-i-preserved c =
    let l = c.loop-i in
    let a = c.args in
    let j = l.i - 256 in
    (omega arith, length_block (a.to + j) (a.from + j) 256 l.arena l.arena (omega (arith, l.invariant.1)) (omega (arith, l.invariant.1)) c.move_block.ensures ∙ l.invariant.1, rw c.move_block.ensures (moves_block a.from a.to a.n l.i j 256 a.arena.now (omega arith) (omega arith) (omega arith) (omega arith) l.invariant.2))

pub shape_of-arena-then-to-from-ge256 : goal.shape_of-arena-then-to-from-ge256
shape_of-arena-then-to-from-ge256 c =
    let l = c.loop-i in
    let a = c.args in
    length_block a.to a.from 256 l.arena l.arena (omega (arith, l.invariant.1)) (omega (arith, l.invariant.1)) c.move_block-then-to-from-ge256.ensures ∙ l.invariant.1

pub returns-then-to-from-ge256 : goal.returns-then-to-from-ge256
returns-then-to-from-ge256 c =
    let l = c.loop-i in
    let a = c.args in
    moves_over a.from a.to a.n l.i 256 a.arena.now (omega arith) (omega arith) (omega arith) (omega arith) l.invariant.2 c.move_block-then-to-from-ge256.ensures

pub shape_of-arena : goal.shape_of-arena
shape_of-arena c =
    let l = c.loop-i in
    let a = c.args in
    length_block a.to a.from l.i l.arena l.arena (omega (arith, l.invariant.1)) (omega (arith, l.invariant.1)) c.move_up_by_bytes.ensures ∙ l.invariant.1

pub returns : goal.returns
returns c =
    let l = c.loop-i in
    let a = c.args in
    moves_rest a.from a.to a.n l.i a.arena.now (omega arith) (omega arith) (omega arith) l.invariant.2 c.move_up_by_bytes.ensures
