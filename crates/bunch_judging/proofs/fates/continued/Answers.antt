-- Each way through is one clause of the definition, by what `follows` answered.
use mathlib.Core.Path.{refl}
use mathlib.Core.Bool.{Bool, true, false, not}
use Rattle.std.proofs.Common.{◌≡◌}
use Rattle.bunch_judging.specs.Fates.{continued}
use Rattle.bunch_judging.proofs.fates.continued.Goals as goal

unfinished : (finished : Bool) → not finished ≡ true → finished ≡ false
unfinished true e = cc
unfinished false e = refl

pub returns-then-not-follows : goal.returns-then-not-follows
unfolding continued
returns-then-not-follows c words bytes =
    rw (
      c.in-Some.is,
      unfinished _ c.if-not-m.true,
      ← c.follows.ensures,
      c.if-not-follows.true,
    )
    refl
