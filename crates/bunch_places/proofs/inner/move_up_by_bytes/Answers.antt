-- The bytes from i on have moved: a turn is Pastes' `moves_up`.
use mathlib.Core.Path.{refl}
use Prim.Native.Nat.{◌-◌}
use native.Mathlib.Omega.{arith}
use lib.ListN.{length-set}
use Rattle.bunch_places.proofs.Pastes.{moves_none, moves_up, moves_all}
use Rattle.bunch_places.proofs.inner.move_up_by_bytes.Goals as goal

pub loop-i-init : goal.loop-i-init
loop-i-init c = (omega arith, refl, moves_none c.args.from c.args.to c.args.n c.args.arena.now)

pub loop-i-preserved : goal.loop-i-preserved
loop-i-preserved c =
    let l = c.loop-i in
    let a = c.args in
    (omega arith, simp length-set l.invariant.1, moves_up 0 a.from a.to a.n l.i (l.i - 1) a.arena.now (omega arith) (omega arith) (omega arith) (omega arith) l.invariant.2)

pub returns : goal.returns
returns c =
    let l = c.loop-i in
    let a = c.args in
    moves_all a.from a.to a.n l.i a.arena.now (omega arith) l.invariant.2

pub shape_of-arena : goal.shape_of-arena
shape_of-arena c = c.loop-i.invariant.1
