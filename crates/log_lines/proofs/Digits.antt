-- The digits of a number: the last one and those of its tens, and how many there are.
use mathlib.Core.Path.{◌≡◌, refl, ap, sym}
use mathlib.Core.Bool.{Bool, true, false, cond}
use mathlib.Core.List.{List, [], ◌∷◌, ◌++◌}
use Prim.Native.Nat.{ℕ, zero, suc, ◌+◌, ◌/◌, ◌≤◌, ◌<◌}
use native.Mathlib.Omega.{arith}
use borrow.Author.Tests.{eq-eqb, ne_eqb, eqb-false}
use lib.Dec.{eqb}
use lib.ListN.{length, length-append}
use Rattle.log_lines.specs.Decimal.{last_digit, digits_from, digits, decimal}

pub no_digits : (n : ℕ) → n ≤ 0 → digits n ≡ []
unfolding digits_from
no_digits zero h = refl
no_digits (suc n) h = absurd (omega arith)

-- any bound that is not below the number gives the same
bound : (k m n : ℕ) → n ≤ k → n ≤ m → digits_from k n ≡ digits_from m n
unfolding digits_from
bound zero zero n f g = refl
bound zero (suc m) n f g = sym (rw (eq-eqb n 0 (omega arith)))
bound (suc k) zero n f g = rw (eq-eqb n 0 (omega arith))
bound (suc k) (suc m) n f g = go (eqb n 0) refl (λ h. bound k m (n / 10) (omega arith) (omega arith))
  where
    go : (t : Bool) → eqb n 0 ≡ t → ((n ≡ 0 → ⊥) → digits_from k (n / 10) ≡ digits_from m (n / 10))
        → cond t [] (digits_from k (n / 10) ++ (last_digit n ∷ [])) ≡ cond t [] (digits_from m (n / 10) ++ (last_digit n ∷ []))
    go true e h = refl
    go false e h = ap (λ (l : List ℕ). l ++ (last_digit n ∷ [])) (h (eqb-false n 0 e))

pub one_more : (n : ℕ) → 0 < n → digits n ≡ digits (n / 10) ++ (last_digit n ∷ [])
unfolding digits_from
one_more zero h = absurd (omega arith)
one_more (suc n) h =
    rw (ne_eqb (suc n) 0 (λ e. omega arith))
    (ap (λ (l : List ℕ). l ++ (last_digit (suc n) ∷ [])) (bound n (suc n / 10) (suc n / 10) (omega arith) (omega arith)))

pub count_more : (n : ℕ) → 0 < n → length (digits n) ≡ length (digits (n / 10)) + 1
count_more n h = rw (one_more n h) (length-append (digits (n / 10)) (last_digit n ∷ []))

pub count_all : (n : ℕ) → length (decimal n) ≡ length (digits (n / 10)) + 1
unfolding decimal
count_all n = length-append (digits (n / 10)) (last_digit n ∷ [])
