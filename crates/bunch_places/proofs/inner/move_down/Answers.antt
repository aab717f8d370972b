-- The first i bytes have moved: a turn is Blocks' `moves_block_down`; what is left is one block more, or `moves_rest_down`.
use mathlib.Core.Path.{refl, ◌∙◌}
use Prim.Native.Nat.{◌+◌, ◌-◌}
use native.Mathlib.Omega.{arith}
use Rattle.bunch_places.proofs.Pastes.{pasted_none}
use Rattle.bunch_places.proofs.Blocks.{moves_block_down, moves_rest_down, length_block}
use Rattle.bunch_places.proofs.Overlaps.{moves_over_down}
use Rattle.bunch_places.proofs.inner.move_down.Goals as goal

pub loop-i-init : goal.loop-i-init
loop-i-init c = (omega arith, refl, pasted_none c.args.to c.args.arena.now)

pub loop-i-preserved : goal.loop-i-preserved
loop-i-preserved c =
    let l = c.loop-i in
    let a = c.args in
    (omega arith, length_block (a.to + l.i) (a.from + l.i) 256 l.arena l.arena (omega (arith, l.invariant.1)) (omega (arith, l.invariant.1)) c.move_block.ensures ∙ l.invariant.1, moves_block_down a.from a.to l.i 256 a.arena.now (omega arith) (omega arith) l.invariant.2 c.move_block.ensures)

pub shape_of-arena-then-from-to-ge256 : goal.shape_of-arena-then-from-to-ge256
shape_of-arena-then-from-to-ge256 c =
    let l = c.loop-i in
    let a = c.args in
    length_block (a.to + (a.n - 256)) (a.from + (a.n - 256)) 256 l.arena l.arena (omega (arith, l.invariant.1)) (omega (arith, l.invariant.1)) c.move_block-then-from-to-ge256.ensures ∙ l.invariant.1

pub returns-then-from-to-ge256 : goal.returns-then-from-to-ge256
returns-then-from-to-ge256 c =
    let l = c.loop-i in
    let a = c.args in
    moves_over_down a.from a.to a.n l.i 256 a.arena.now (omega arith) (omega arith) l.invariant.0 (omega arith) (omega arith) l.invariant.2 c.move_block-then-from-to-ge256.ensures

pub shape_of-arena : goal.shape_of-arena
shape_of-arena c =
    let l = c.loop-i in
    let a = c.args in
    length_block (a.to + l.i) (a.from + l.i) (a.n - l.i) l.arena l.arena (omega (arith, l.invariant.1)) (omega (arith, l.invariant.1)) c.move_down_by_bytes.ensures ∙ l.invariant.1

pub returns : goal.returns
returns c =
    let l = c.loop-i in
    let a = c.args in
    moves_rest_down a.from a.to a.n l.i a.arena.now l.invariant.0 (omega arith) (omega arith) l.invariant.2 c.move_down_by_bytes.ensures
