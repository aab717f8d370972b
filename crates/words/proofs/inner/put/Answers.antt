-- The first i words are pasted: a turn is Seq's `paste-suc`.
use mathlib.Core.Path.{◌≡◌, refl, ap, ◌∙◌}
use mathlib.Core.List.{List, ◌++◌, append_assoc}
use Prim.Native.Nat.{ℕ, ◌+◌}
use native.Mathlib.Numerals.{add-one}
use native.Mathlib.Omega.{arith}
use lib.ListN.{length, get_or, set, take, drop, length-set}
use lib.Seq.{paste, paste-zero, paste-suc, take-length}
use Rattle.words.proofs.inner.put.Goals as goal

all_put : (d : List ℕ) (at i : ℕ) (s : List ℕ) → i ≡ length s → paste d at s i ≡ take at d ++ (s ++ drop (at + length s) d)
all_put d at i s e = rw (e, take-length s) (append_assoc (take at d) s (drop (at + length s) d))

pub loop-i-init : goal.loop-i-init
loop-i-init c = (refl, paste-zero c.args.to.now c.args.at c.args.from.now)

pub loop-i-preserved : goal.loop-i-preserved
loop-i-preserved c =
    let l = c.loop-i in
    let a = c.args in
    (simp length-set l.invariant.0, ap (λ (t : List ℕ). set t (a.at + l.i) (get_or a.from.now l.i 0)) l.invariant.1 ∙ rw add-one (paste-suc a.to.now a.at a.from.now l.i 0 (omega arith) (omega arith)))

pub returns : goal.returns
returns c =
    let l = c.loop-i in
    let a = c.args in
    let e : l.i ≡ length a.from.now = omega arith in
    l.invariant.1 ∙ all_put a.to.now a.at l.i a.from.now e
