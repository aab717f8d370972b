-- What is still to be stored goes on from where the loop is.
use mathlib.Core.Path.{◌≡◌, refl, ap, sym, ◌∙◌}
use mathlib.Core.List.{List}
use Prim.Native.Nat.{ℕ, suc, ◌+◌, ◌-◌, ◌/◌, ◌%◌}
use native.Mathlib.Nat.{add-zero, sub-zero, add_assoc}
use native.Mathlib.Omega.{arith}
use lib.ListN.{set, length-set}
use Rattle.bitio_bits.specs.Words.{stored}
use Rattle.bitio_window.proofs.inner.copy.store.Goals as goal

step : (l : List ℕ) (i word m n : ℕ) → m ≡ suc n → stored l i word m ≡ stored (set l i (word % 256)) (i + 1) (word / 256) n
unfolding stored
step l i word m n e = rw e

end : (l : List ℕ) (i word m : ℕ) → m ≡ 0 → stored l i word m ≡ l
unfolding stored
end l i word m e = rw e

pub loop-j-init : goal.loop-j-init
loop-j-init c = (refl, rw (add-zero, sub-zero) refl)

pub loop-j-preserved : goal.loop-j-preserved
loop-j-preserved c =
    let a = c.args in
    let l = c.loop-j in (
      simp length-set l.invariant.0,
      l.invariant.1 ∙ step l.target (a.at + l.j) l.rest (a.m - l.j) (a.m - (l.j + 1)) (omega arith)
          ∙ ap (λ (i : ℕ). stored (set l.target (a.at + l.j) (l.rest % 256)) i (l.rest / 256) (a.m - (l.j + 1))) (add_assoc a.at l.j 1),
    )

pub returns : goal.returns
returns c =
    let a = c.args in
    let l = c.loop-j in
    sym (l.invariant.1 ∙ end l.target (a.at + l.j) l.rest (a.m - l.j) (omega arith))
