-- Each way through is one side of the definition.
use mathlib.Core.Path.{◌≡◌, sym, ◌∙◌}
use mathlib.Core.Bool.{Bool, false, cond}
use Rattle.bunch_judging.specs.declared.Fate.{Fate}
use Rattle.bunch_judging.specs.Fates.{fate}
use Rattle.bunch_judging.proofs.fates.fate.Goals as goal

otherwise : {b : Bool} (x y : Fate) → b ≡ false → cond b x y ≡ y
otherwise x y e = rw e

pub returns-then-full : goal.returns-then-full
unfolding fate
returns-then-full c words bytes = rw (c.if-header.true, c.if-full.true)

pub returns-then-header : goal.returns-then-header
unfolding fate
returns-then-header c words bytes =
    rw (c.if-header.true, c.if-full.false, ← (c.overlaps.ensures words bytes))
    c.admitted.ensures

pub returns : goal.returns
unfolding fate
returns c words bytes = c.continued.ensures words bytes ∙ sym (otherwise _ _ c.if-header.false)
