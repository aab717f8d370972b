-- Each part is what its function ensures; no bits take no bytes.
use Prim.Native.Nat.{ℕ}
use mathlib.Core.Path.{◌≡◌, refl, ap, ◌∙◌}
use mathlib.Core.Bool.{Bool, true, false, cond}
use Rattle.bunch_places.specs.Bytes.{bytes_of}
use Rattle.bunch_settling.proofs.inner.fragments.weigh.Goals as goal

bytes_if : (shown : Bool) (n : ℕ) → bytes_of (cond shown n 0) ≡ cond shown (bytes_of n) 0
bytes_if true n = refl
bytes_if false n = refl

pub returns : goal.returns
returns c = (c.fate-met.ensures, c.effect-e.ensures, c.bytes_of.ensures ∙ ap (λ (n : ℕ). bytes_of n) c.bits_if.ensures ∙ bytes_if _ _, c.bits_if-2.ensures)
