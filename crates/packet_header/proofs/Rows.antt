-- A row of reads in code: each that gave its value is one step of the parse, and the one that refused is its end.
use Prim.Native.Nat.{ℕ}
use mathlib.Core.Path.{◌≡◌, ◌∙◌, ap}
use mathlib.Core.List.{List}
use Rattle.std.specs.Prelude.{Result, IsErrAnd}
use Rattle.bitio_window.specs.declared.Window.{Window}
use Rattle.bitio_window.specs.declared.BitError.{BitError}
use Rattle.bitio_window.specs.Refusals.{paper}
use Rattle.bitio_window.specs.Parse.{Answer, got, refused, Parse, and_then, ◌>>=◌}
use Rattle.bitio_window.specs.Answers.{answer}
use Rattle.bitio_window.proofs.Handed.{handed_on}

module _ {A B : Type 0} (p : Parse A) (k : A → Parse B) {d : List ℕ} {w u : Window} where
  pub on : {a : A} → got a u ≡ p d w → {x : Answer B} → x ≡ k a d u → x ≡ (p >>= k) d w
  unfolding ◌>>=◌
  on {a} e f = f ∙ ap (λ (x : Answer A). and_then x (λ a. k a d)) e

  pub ends : (r : Result B BitError) (e : BitError) → IsErrAnd r (λ x. x ≡ e) → refused (paper e) u ≡ p d w → answer r u ≡ (p >>= k) d w
  unfolding ◌>>=◌
  ends r e h f = handed_on r e u h ∙ ap (λ (x : Answer A). and_then x (λ a. k a d)) f
