-- The first i bytes are pasted: a turn is Pastes' `copies_on`.
use mathlib.Core.Path.{◌≡◌, refl, ap, ◌∙◌}
use mathlib.Core.List.{List}
use Prim.Native.Nat.{ℕ, ◌+◌}
use native.Mathlib.Omega.{arith}
use lib.ListN.{get_or, set, length-set}
use Rattle.bunch_places.specs.Bytes.{pasted, part}
use Rattle.bunch_places.proofs.Pastes.{pasted_none, copies_on}
use Rattle.bunch_places.proofs.inner.copy_by_bytes.Goals as goal

pub loop-i-init : goal.loop-i-init
loop-i-init c = (omega arith, refl, pasted_none c.args.at c.args.out.now)

pub loop-i-preserved : goal.loop-i-preserved
loop-i-preserved c =
    let l = c.loop-i in
    let a = c.args in
    (omega arith, simp length-set l.invariant.1, ap (λ (t : List ℕ). set t (a.at + l.i) (get_or a.src.now (a.from + l.i) 0)) l.invariant.2 ∙ copies_on 0 a.from a.at l.i (l.i + 1) a.src.now a.out.now (omega arith) (omega arith) (omega arith))

pub returns : goal.returns
returns c =
    let l = c.loop-i in
    let a = c.args in
    let e : l.i ≡ a.n = omega arith in
    l.invariant.2 ∙ ap (λ (k : ℕ). pasted a.at (part a.from k a.src.now) a.out.now) e

pub shape_of-out : goal.shape_of-out
shape_of-out c = c.loop-i.invariant.1
