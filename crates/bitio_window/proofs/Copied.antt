-- A copy in progress: the finished list's front, and the target's own rest.
use mathlib.Core.Path.{◌≡◌, refl, ap, ap₂, sym, ◌∙◌}
use mathlib.Core.List.{List, [], ◌∷◌, ◌++◌}
use Prim.Native.Nat.{ℕ, zero, suc, ◌+◌, ◌*◌, ◌-◌, ◌/◌, ◌%◌, ◌^◌, ◌≤◌, ◌<◌, min}
use native.Mathlib.Nat.{not-suc-le-zero, le_of_suc-le-suc, add-zero, sub-zero, div-one, mod-eq_of_lt, lt_of_lt_of_le, min-eq_left, min-eq_right}
use native.Mathlib.Numerals.{add-one}
use native.Mathlib.Decide.{dec_le}
use native.Mathlib.Omega.{arith}
use lib.ListN.{length, get_or, set, take, drop, take-append-drop}
use lib.Pow.{pow_mono, shr-shr}
use Rattle.bitio_bits.specs.Bits.{bits_at}
use Rattle.bitio_window.specs.Copies.{copied}
use Rattle.bitio_bits.specs.Words.{stored}
use Rattle.bitio_bits.proofs.Numbers.{bits_lt, bits_after, bits_front}

module _ (d : List ℕ) where
  pub length_copied : (l : List ℕ) (k n : ℕ) → length (copied l d k n) ≡ length l
  unfolding copied
  length_copied [] k n = refl
  length_copied (x ∷ xs) k zero = refl
  length_copied (x ∷ xs) k (suc n) = ap suc (length_copied xs (k + 8) (suc n - 8))

  byte_copied : (l : List ℕ) (k n i : ℕ) → i < length l → 8 * i < n → get_or (copied l d k n) i 0 ≡ bits_at d (k + 8 * i) (min 8 (n - 8 * i))
  unfolding copied
  byte_copied [] k n i h f = absurd (not-suc-le-zero h)
  byte_copied (x ∷ xs) k zero i h f = absurd (not-suc-le-zero f)
  byte_copied (x ∷ xs) k (suc n) zero h f = sym (ap₂ (λ (j m : ℕ). bits_at d j (min 8 m)) (add-zero k) (sub-zero (suc n)))
  byte_copied (x ∷ xs) k (suc n) (suc i) h f =
      let a : k + 8 + 8 * i ≡ k + 8 * suc i = omega arith in
      let b : suc n - 8 - 8 * i ≡ suc n - 8 * suc i = omega arith in
      byte_copied xs (k + 8) (suc n - 8) i (le_of_suc-le-suc h) (omega arith) ∙ ap₂ (λ (j m : ℕ). bits_at d j (min 8 m)) a b

  rest_copied : (l : List ℕ) (k n i : ℕ) → n ≤ 8 * i → drop i (copied l d k n) ≡ drop i l
  unfolding copied
  rest_copied [] k n i f = refl
  rest_copied (x ∷ xs) k zero i f = refl
  rest_copied (x ∷ xs) k (suc n) zero f = absurd (not-suc-le-zero f)
  rest_copied (x ∷ xs) k (suc n) (suc i) f = rest_copied xs (k + 8) (suc n - 8) i (omega arith)

-- a byte of n bits that are read from bit k on
pub bits_part : (d : List ℕ) (k n j : ℕ) → j ≤ n → bits_at d k n / 2 ^ j % 2 ^ 8 ≡ bits_at d (k + j) (min 8 (n - j))
bits_part d k n j h =
    let e : n ≡ j + (n - j) = omega arith in
    ap (λ (m : ℕ). bits_at d k m / 2 ^ j % 2 ^ 8) e ∙ ap (λ (x : ℕ). x % 2 ^ 8) (bits_after d k j (n - j)) ∙ eight (dec_le 8 (n - j))
  where
    eight : Dec (8 ≤ n - j) → bits_at d (k + j) (n - j) % 2 ^ 8 ≡ bits_at d (k + j) (min 8 (n - j))
    eight (yes f) =
        let e : n - j ≡ 8 + (n - j - 8) = omega arith in
        ap (λ (m : ℕ). bits_at d (k + j) m % 2 ^ 8) e ∙ bits_front d (k + j) 8 (n - j - 8) ∙ ap (λ (m : ℕ). bits_at d (k + j) m) (sym (min-eq_left f))
    eight (no f) =
        let g : n - j ≤ 8 = omega arith in
        mod-eq_of_lt (lt_of_lt_of_le (bits_lt d (k + j) (n - j)) (pow_mono g)) ∙ ap (λ (m : ℕ). bits_at d (k + j) m) (sym (min-eq_right g))

-- the front of f, and then l: one more byte of f
grow : (f l : List ℕ) (i : ℕ) → i < length f → length f ≡ length l → set (take i f ++ drop i l) i (get_or f i 0) ≡ take (suc i) f ++ drop (suc i) l
grow [] l i h e = absurd (not-suc-le-zero h)
grow (x ∷ f) [] i h e = absurd (omega arith)
grow (x ∷ f) (y ∷ l) zero h e = refl
grow (x ∷ f) (y ∷ l) (suc i) h e = ap (λ (t : List ℕ). x ∷ t) (grow f l i (le_of_suc-le-suc h) (omega arith))

-- and m more, each a byte of a word
pub stored_grows : (f l : List ℕ) (i word m : ℕ) → length f ≡ length l → i + m ≤ length f → ((j : ℕ) → j < m → word / 2 ^ (8 * j) % 256 ≡ get_or f (i + j) 0)
    → stored (take i f ++ drop i l) i word m ≡ take (i + m) f ++ drop (i + m) l
unfolding stored
stored_grows f l i word zero e h b = ap (λ (n : ℕ). take n f ++ drop n l) (sym (add-zero i))
stored_grows f l i word (suc m) e h b =
    let first : word % 256 ≡ get_or f i 0 = ap (λ (x : ℕ). x % 256) (sym (div-one word)) ∙ b 0 (omega arith) ∙ ap (λ (n : ℕ). get_or f n 0) (add-zero i) in
    let one : set (take i f ++ drop i l) i (word % 256) ≡ take (i + 1) f ++ drop (i + 1) l =
    rw (first, add-one) (grow f l i (omega arith) e) in
    let n : i + 1 + m ≡ i + suc m = omega arith in
    ap (λ (t : List ℕ). stored t (i + 1) (word / 256) m) one
    ∙ stored_grows f l (i + 1) (word / 256) m e (omega arith)
    (λ j g.
    let p : 8 + 8 * j ≡ 8 * suc j = omega arith in
    let q : i + suc j ≡ i + 1 + j = omega arith in
    ap (λ (x : ℕ). x % 256) (shr-shr word 8 (8 * j) ∙ ap (λ (x : ℕ). word / 2 ^ x) p) ∙ b (suc j) (omega arith) ∙ ap (λ (x : ℕ). get_or f x 0) q)
    ∙ ap (λ (x : ℕ). take x f ++ drop x l) n

-- the whole, where the word's bytes are the copy's own
module _ (d l : List ℕ) (k n : ℕ) where
  -- so far
  abbrev pub Front : ℕ → List ℕ → Type 0
  Front i t = t ≡ take i (copied l d k n) ++ drop i l

  pub none : Front 0 l
  none = refl

  pub more : (i m word : ℕ) {t : List ℕ} → Front i t → i + m ≤ length l → 8 * (i + m) < n + 8 → word ≡ bits_at d (k + 8 * i) (min (8 * m) (n - 8 * i))
      → Front (i + m) (stored t i word m)
  more i m word e h g f =
      let final : List ℕ = copied l d k n in
      let size : length final ≡ length l = length_copied d l k n in
      ap (λ (t : List ℕ). stored t i word m) e
      ∙ stored_grows final l i word m size (omega arith)
      (λ j p.
      let a : k + 8 * i + 8 * j ≡ k + 8 * (i + j) = omega arith in
      let b : min 8 (min (8 * m) (n - 8 * i) - 8 * j) ≡ min 8 (n - 8 * (i + j)) = omega arith in
      ap (λ (x : ℕ). x / 2 ^ (8 * j) % 256) f ∙ bits_part d (k + 8 * i) (min (8 * m) (n - 8 * i)) (8 * j) (omega arith)
      ∙ ap₂ (bits_at d) a b ∙ sym (byte_copied d l k n (i + j) (omega arith) (omega arith)))

  pub done : (i : ℕ) {t : List ℕ} → Front i t → n ≤ 8 * i → t ≡ copied l d k n
  done i e f = e ∙ ap (λ (x : List ℕ). take i (copied l d k n) ++ x) (sym (rest_copied d l k n i f)) ∙ take-append-drop i (copied l d k n)
