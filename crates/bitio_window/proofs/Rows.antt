-- Reads in a row, one step at a time: what a row comes to where its first step gives a value, and where it refuses.
use mathlib.Core.Path.{◌≡◌, refl}
use mathlib.Core.Bool.{Bool, true, false}
use mathlib.Core.List.{List}
use Prim.Native.Nat.{ℕ}
use native.Mathlib.Omega.{arith}
use Rattle.bitio_window.specs.declared.Window.{Window}
use Rattle.bitio_window.specs.Refusals.{Refusal}
use Rattle.bitio_window.specs.Parse.{Answer, got, refused, Parse, and_then, ◌>>=◌, ◌>>◌, give, refuse, refuse_if}

pub not_refused : {A : Type 0} {a : A} {e : Refusal} {u v : Window} → refused e v ≡ got a u → ⊥
not_refused h = let z : ◌≡◌ {A = ℕ} 0 1 = cc in omega arith

module _ {A B : Type 0} (d : List ℕ) (w : Window) where
  pub then_got : (p : Parse A) (k : A → Parse B) {a : A} {u : Window} → p d w ≡ got a u → (p >>= k) d w ≡ k a d u
  unfolding ◌>>=◌
  then_got p k e = rw e

  pub then_refused : (p : Parse A) (k : A → Parse B) {r : Refusal} {u : Window} → p d w ≡ refused r u → (p >>= k) d w ≡ refused r u
  unfolding ◌>>=◌
  then_refused p k e = rw e

  pub next_got : (p : Parse A) (q : Parse B) {a : A} {u : Window} → p d w ≡ got a u → (p >> q) d w ≡ q d u
  unfolding ◌>>◌
  next_got p q e = rw e

  pub next_refused : (p : Parse A) (q : Parse B) {r : Refusal} {u : Window} → p d w ≡ refused r u → (p >> q) d w ≡ refused r u
  unfolding ◌>>◌
  next_refused p q e = rw e

module _ {A : Type 0} (d : List ℕ) (w : Window) where
  pub refuses : (e : Refusal) (q : Parse A) {t : Bool} → t ≡ true → (refuse_if t e >> q) d w ≡ refused e w
  unfolding ◌>>◌ refuse_if refuse
  refuses e q h = rw h

  pub lets_on : (e : Refusal) (q : Parse A) {t : Bool} → t ≡ false → (refuse_if t e >> q) d w ≡ q d w
  unfolding ◌>>◌ refuse_if give
  lets_on e q h = rw h

  -- a row that gives a value has passed its test
  pub ahead : (t : Bool) (e : Refusal) (q : Parse A) {a : A} {u : Window} → (refuse_if t e >> q) d w ≡ got a u → (t ≡ false) × (q d w ≡ got a u)
  unfolding ◌>>◌ refuse_if refuse give
  ahead true e q h = absurd (not_refused h)
  ahead false e q h = (refl, h)

  -- three reads in a row, grouped either way
  pub regroup : {B C : Type 0} (p : Parse A) (q : Parse B) (r : Parse C) → ((p >> q) >> r) d w ≡ (p >> (q >> r)) d w
  unfolding ◌>>◌
  regroup {B = B} {C = C} p q r = go (p d w)
    where
      go : (x : Answer A) → and_then (and_then x (λ a. q d)) (λ b. r d) ≡ and_then x (λ a v. and_then (q d v) (λ b. r d))
      go (got a v) = refl
      go (refused e v) = refl

  -- a row that gives a value gives it where its first step left the reader
  pub from_last : {B : Type 0} (p : Parse A) (q : Parse B) {b : B} {u : Window} → (p >> q) d w ≡ got b u → (v : Window) × (q d v ≡ got b u)
  unfolding ◌>>◌
  from_last {B = B} p q {b} {u} h = go (p d w) h
    where
      go : (x : Answer A) → and_then x (λ a. q d) ≡ got b u → (v : Window) × (q d v ≡ got b u)
      go (got a v) e = (v, e)
      go (refused e v) f = absurd (not_refused f)
