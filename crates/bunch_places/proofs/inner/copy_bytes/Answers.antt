-- The first i bytes are pasted: a turn is Blocks' `copies_block`, and what is left is one block more.
use mathlib.Core.Path.{refl, ◌∙◌}
use Prim.Native.Nat.{◌+◌, ◌-◌}
use native.Mathlib.Omega.{arith}
use Rattle.bunch_places.proofs.Pastes.{pasted_none}
use Rattle.bunch_places.proofs.Blocks.{copies_block, length_block}
use Rattle.bunch_places.proofs.Overlaps.{copies_over}
use Rattle.bunch_places.proofs.inner.copy_bytes.Goals as goal

pub shape_of-out-then-n-lt256 : goal.shape_of-out-then-n-lt256
shape_of-out-then-n-lt256 c =
    let a = c.args in
    length_block a.at a.from a.n a.src.now a.out.now (omega arith) (omega arith) c.copy_by_bytes.ensures

pub loop-i-init : goal.loop-i-init
loop-i-init c = let a = c.args in (omega arith, refl, pasted_none a.at a.out.now)

pub loop-i-preserved : goal.loop-i-preserved
loop-i-preserved c =
    let l = c.loop-i in
    let a = c.args in
    (omega arith, length_block (a.at + l.i) (a.from + l.i) 256 a.src.now l.out (omega arith) (omega (arith, l.invariant.1)) c.copy_by_bytes-in-loop-i.ensures ∙ l.invariant.1, copies_block a.from a.at l.i 256 a.src.now a.out.now (omega arith) (omega arith) l.invariant.2 c.copy_by_bytes-in-loop-i.ensures)

pub shape_of-out : goal.shape_of-out
shape_of-out c =
    let l = c.loop-i in
    let a = c.args in
    length_block (a.at + (a.n - 256)) (a.from + (a.n - 256)) 256 a.src.now l.out (omega arith) (omega (arith, l.invariant.1)) c.copy_by_bytes-2.ensures ∙ l.invariant.1

pub returns : goal.returns
returns c =
    let l = c.loop-i in
    let a = c.args in
    copies_over a.from a.at a.n l.i 256 a.src.now a.out.now (omega arith) (omega arith) l.invariant.0 (omega arith) (omega arith) l.invariant.2 c.copy_by_bytes-2.ensures
