-- The first i bytes have moved: a turn is Pastes' `moves_down`.
use mathlib.Core.Path.{◌≡◌, refl, ap, ◌∙◌}
use mathlib.Core.List.{List}
use Prim.Native.Nat.{ℕ, ◌+◌}
use native.Mathlib.Omega.{arith}
use lib.ListN.{get_or, set, length-set}
use Rattle.bunch_places.specs.Bytes.{pasted, part}
use Rattle.bunch_places.proofs.Pastes.{pasted_none, moves_down}
use Rattle.bunch_places.proofs.inner.move_down_by_bytes.Goals as goal

pub loop-i-init : goal.loop-i-init
loop-i-init c = (omega arith, refl, pasted_none c.args.to c.args.arena.now)

pub loop-i-preserved : goal.loop-i-preserved
loop-i-preserved c =
    let l = c.loop-i in
    let a = c.args in
    (omega arith, simp length-set l.invariant.1, ap (λ (t : List ℕ). set t (a.to + l.i) (get_or t (a.from + l.i) 0)) l.invariant.2 ∙ moves_down 0 a.from a.to l.i (l.i + 1) a.arena.now (omega arith) (omega arith) (omega arith))

pub returns : goal.returns
returns c =
    let l = c.loop-i in
    let a = c.args in
    let e : l.i ≡ a.n = omega arith in
    l.invariant.2 ∙ ap (λ (k : ℕ). pasted a.to (part a.from k a.arena.now) a.arena.now) e

pub shape_of-arena : goal.shape_of-arena
shape_of-arena c = c.loop-i.invariant.1
