-- The definition, word for word: `==` on flags is `agree`.
use mathlib.Core.Bool.{Bool, true, false, beq}
use mathlib.Core.Path.{◌≡◌, refl}
use Rattle.types.specs.Continuing.{agree, continues}
use Rattle.types.proofs.continuing.continues.Goals as goal

equal : (a b : Bool) → beq a b ≡ agree a b
equal true true = refl
equal true false = refl
equal false true = refl
equal false false = refl

pub returns : goal.returns
unfolding continues
returns c = rw (c.following-next.ensures, equal) refl
