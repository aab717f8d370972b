-- A decimal text spells its number: read back, the digits give it, and the first is no zero but in "0".
use mathlib.Core.Path.{◌≡◌, refl, ap}
use mathlib.Core.List.{List, [], ◌∷◌, ◌++◌}
use Prim.Native.Nat.{ℕ, zero, suc, ◌+◌, ◌*◌, ◌-◌, ◌/◌, ◌≤◌, ◌<◌}
use native.Mathlib.Omega.{arith}
use lib.ListN.{length, get_or, length-append, get_or-append}
use native.Mathlib.Decide.{dec_le}
use Rattle.log_lines.specs.Decimal.{last_digit, digits, decimal}
use Rattle.log_lines.proofs.Digits.{no_digits, one_more, count_more, count_all}

-- the number that digits spell after others
abbrev pub spelled : ℕ → List ℕ → ℕ
spelled before [] = before
spelled before (d ∷ ds) = spelled (10 * before + (d - 48)) ds

spelled_last : (b : ℕ) (s : List ℕ) (d : ℕ) → spelled b (s ++ (d ∷ [])) ≡ 10 * spelled b s + (d - 48)
spelled_last b [] d = refl
spelled_last b (x ∷ s) d = spelled_last (10 * b + (x - 48)) s d

-- by a bound that is not below the number
spells_digits : (k n : ℕ) → n ≤ k → spelled 0 (digits n) ≡ n
spells_digits zero n h = rw (no_digits n h) (omega arith)
spells_digits (suc k) zero h = rw (no_digits 0 (omega arith))
spells_digits (suc k) (suc n) h =
    rw (one_more (suc n) (omega arith), spelled_last 0 (digits (suc n / 10)) (last_digit (suc n)), spells_digits k (suc n / 10) (omega arith)) (omega arith)

pub spells : (n : ℕ) → spelled 0 (decimal n) ≡ n
unfolding decimal
spells n = rw (spelled_last 0 (digits (n / 10)) (last_digit n), spells_digits (n / 10) (n / 10) (omega arith)) (omega arith)

no_zero_first : (k n : ℕ) → n ≤ k → 0 < n → 48 < get_or (digits n) 0 0
no_zero_first zero n h p = absurd (omega arith)
no_zero_first (suc k) n h p =
    rw (one_more n p) (first (dec_le 1 (n / 10)) (λ q. no_zero_first k (n / 10) (omega arith) q))
  where
    first : Dec (1 ≤ n / 10) → (1 ≤ n / 10 → 48 < get_or (digits (n / 10)) 0 0) → 48 < get_or (digits (n / 10) ++ (last_digit n ∷ [])) 0 0
    first (yes q) f = rw (get_or-append (digits (n / 10)) (last_digit n ∷ []) 0 0 (omega (arith, count_more (n / 10) q))) (f q)
    first (no q) f = rw (no_digits (n / 10) (omega arith)) (omega arith)

pub no_leading_zero : (n : ℕ) → 1 < length (decimal n) → 48 < get_or (decimal n) 0 0
unfolding decimal
no_leading_zero n h =
    let e : length (digits (n / 10) ++ (last_digit n ∷ [])) ≡ length (digits (n / 10)) + 1 = length-append (digits (n / 10)) (last_digit n ∷ []) in
    rw (get_or-append (digits (n / 10)) (last_digit n ∷ []) 0 0 (omega arith)) (tens (dec_le 1 (n / 10)))
  where
    tens : Dec (1 ≤ n / 10) → 48 < get_or (digits (n / 10)) 0 0
    tens (yes q) = no_zero_first (n / 10) (n / 10) (omega arith) q
    tens (no q) = absurd (omega (arith, count_all n, ap length (no_digits (n / 10) (omega arith))))
