-- The arithmetic view of bits: the data as one number, divided and remaindered by powers of two.
use mathlib.Core.Path.{◌≡◌, ap, sym, ◌∙◌}
use mathlib.Core.List.{List, [], ◌∷◌}
use Prim.Native.Nat.{ℕ, zero, suc, ◌+◌, ◌*◌, ◌-◌, ◌/◌, ◌%◌, ◌^◌, ◌≤◌, ◌<◌}
use native.Mathlib.Nat.{mod-one, add-zero, zero-add, suc-add, one-mul, add_comm, mul_comm, mul_assoc, pow-succ', zero-div, div-one, pow-suc}
use native.Mathlib.Numerals.{add-one}
use native.Mathlib.Omega.{arith}
use lib.ListN.{length, get_or}
use lib.Pow.{pow-add, high, low, shr-shr, field, mod-pow-add, mod-mod-pow}
use Rattle.bitio_bits.specs.Bits.{bit_at, bits_at}

pub bits_lt : (d : List ℕ) (k n : ℕ) → bits_at d k n < 2 ^ n
unfolding bits_at bit_at
bits_lt d k zero = omega arith
bits_lt d k (suc n) = omega (arith, pow-suc 2 n, bits_lt d (k + 1) n)

pub bits_one : (d : List ℕ) (k : ℕ) → bits_at d k 1 ≡ bit_at d k
unfolding bits_at
bits_one d k = add-zero (bit_at d k)

pub bits_append : (d : List ℕ) (k m n : ℕ) → bits_at d k (m + n) ≡ bits_at d k m + 2 ^ m * bits_at d (k + m) n
unfolding bits_at
bits_append d k zero n =
    ap (λ (j : ℕ). bits_at d k j) (zero-add n) ∙ sym (zero-add (2 ^ 0 * bits_at d (k + 0) n) ∙ one-mul (bits_at d (k + 0) n) ∙ ap (λ (j : ℕ). bits_at d j n) (add-zero k))
bits_append d k (suc m) n =
    let x : ℕ = bits_at d (k + suc m) n in
    let f : k + 1 + m ≡ k + suc m = omega arith in
    let p : 2 ^ suc m * x ≡ 2 * (2 ^ m * x) = ap (λ (y : ℕ). y * x) (pow-succ' 2 m) ∙ mul_assoc 2 (2 ^ m) x in
    let r : bits_at d (k + 1) (m + n) ≡ bits_at d (k + 1) m + 2 ^ m * x =
    bits_append d (k + 1) m n ∙ ap (λ (j : ℕ). bits_at d (k + 1) m + 2 ^ m * bits_at d j n) f in
    ap (λ (j : ℕ). bits_at d k j) (suc-add m n) ∙ omega arith

turned : (d : List ℕ) (k m n : ℕ) → bits_at d k m + 2 ^ m * bits_at d (k + m) n ≡ bits_at d (k + m) n * 2 ^ m + bits_at d k m
turned d k m n =
    add_comm (bits_at d k m) (2 ^ m * bits_at d (k + m) n) ∙ ap (λ (x : ℕ). x + bits_at d k m) (mul_comm (2 ^ m) (bits_at d (k + m) n))

pub bits_after : (d : List ℕ) (k m n : ℕ) → bits_at d k (m + n) / 2 ^ m ≡ bits_at d (k + m) n
bits_after d k m n = ap (λ (x : ℕ). x / 2 ^ m) (bits_append d k m n ∙ turned d k m n) ∙ high (bits_at d (k + m) n) m (bits_lt d k m)

pub bits_front : (d : List ℕ) (k m n : ℕ) → bits_at d k (m + n) % 2 ^ m ≡ bits_at d k m
bits_front d k m n = ap (λ (x : ℕ). x % 2 ^ m) (bits_append d k m n ∙ turned d k m n) ∙ low (bits_at d (k + m) n) m (bits_lt d k m)

-- the data as one number, its first byte lowest
pub number : List ℕ → ℕ
number [] = 0
number (x ∷ xs) = x + 256 * number xs

abbrev pub Bytes : List ℕ → Type 0
Bytes d = (i : ℕ) → get_or d i 0 < 256

pub number_lt : (d : List ℕ) → Bytes d → number d < 2 ^ (8 * length d)
unfolding number
number_lt [] b = omega arith
number_lt (x ∷ xs) b =
    let e : 8 * length (x ∷ xs) ≡ 8 * length xs + 8 = omega arith in
    rw (e, pow-add 2 (8 * length xs) 8) (omega (arith, b 0, number_lt xs (λ i. b (suc i))))

-- the data from byte i on
abbrev pub from : List ℕ → ℕ → ℕ
from d i = number d / 2 ^ (8 * i)

-- low bits of a part are low bits of the whole
pub cut : (x o w m : ℕ) → w + o ≤ m → x % 2 ^ m / 2 ^ o % 2 ^ w ≡ x / 2 ^ o % 2 ^ w
cut x o w m h =
    let e : m ≡ ((m - (w + o)) + w) + o = omega arith in
    ap (λ (k : ℕ). x % 2 ^ k / 2 ^ o % 2 ^ w) e ∙ ap (λ (y : ℕ). y % 2 ^ w) (field x ((m - (w + o)) + w) o)
    ∙ mod-mod-pow (x / 2 ^ o) (m - (w + o)) w

pub cut_low : (x w m : ℕ) → w ≤ m → x % 2 ^ m % 2 ^ w ≡ x % 2 ^ w
cut_low x w m h = let e : m ≡ (m - w) + w = omega arith in ap (λ (k : ℕ). x % 2 ^ k % 2 ^ w) e ∙ mod-mod-pow x (m - w) w

from_zero : (d : List ℕ) → from d 0 ≡ number d
from_zero d = div-one (number d)

from_suc : (x : ℕ) (xs : List ℕ) (i : ℕ) → x < 256 → from (x ∷ xs) (suc i) ≡ from xs i
unfolding number
from_suc x xs i h =
    let e : 8 * suc i ≡ 8 + 8 * i = omega arith in
    let q : (x + 256 * number xs) / 2 ^ 8 ≡ number xs = omega arith in
    ap (λ (k : ℕ). (x + 256 * number xs) / 2 ^ k) e ∙ sym (shr-shr (x + 256 * number xs) 8 (8 * i)) ∙ ap (λ (y : ℕ). y / 2 ^ (8 * i)) q

-- the lowest byte, and the rest
pub from_step : (d : List ℕ) → Bytes d → (i : ℕ) → from d i ≡ get_or d i 0 + 256 * from d (suc i)
unfolding number
from_step [] b i =
    omega (arith, zero-div (2 ^ (8 * i)), zero-div (2 ^ (8 * suc i)))
from_step (x ∷ xs) b zero = from_zero (x ∷ xs) ∙ ap (λ (y : ℕ). x + 256 * y) (sym (from_suc x xs 0 (b 0) ∙ from_zero xs))
from_step (x ∷ xs) b (suc i) =
    from_suc x xs i (b 0) ∙ from_step xs (λ j. b (suc j)) i
    ∙ ap (λ (y : ℕ). get_or xs i 0 + 256 * y) (sym (from_suc x xs (suc i) (b 0)))

module _ (d : List ℕ) (b : Bytes d) where
  pub from_bit : (k : ℕ) → number d / 2 ^ k ≡ from d (k / 8) / 2 ^ (k % 8)
  from_bit k =
      let e : k ≡ 8 * (k / 8) + k % 8 = omega arith in
      ap (λ (j : ℕ). number d / 2 ^ j) e ∙ sym (shr-shr (number d) (8 * (k / 8)) (k % 8))

  bit_number : (k : ℕ) → bit_at d k ≡ number d / 2 ^ k % 2
  unfolding bit_at
  bit_number k =
      let i : ℕ = k / 8 in
      let m : from d i % 2 ^ 8 ≡ get_or d i 0 = omega (arith, b i, from_step d b i) in
      ap (λ (x : ℕ). x / 2 ^ (k % 8) % 2) (sym m) ∙ cut (from d i) (k % 8) 1 8 (omega arith)
      ∙ ap (λ (x : ℕ). x % 2) (sym (from_bit k))

  pub bits_number : (n k : ℕ) → bits_at d k n ≡ number d / 2 ^ k % 2 ^ n
  unfolding bits_at
  bits_number zero k = sym (mod-one (number d / 2 ^ k))
  bits_number (suc n) k =
      let x : ℕ = number d / 2 ^ k in
      let rest : bits_at d (k + 1) n ≡ x / 2 ^ 1 % 2 ^ n = bits_number n (k + 1) ∙ ap (λ (y : ℕ). y % 2 ^ n) (sym (shr-shr (number d) k 1)) in
      let all : x % 2 ^ suc n ≡ (x / 2 ^ 1 % 2 ^ n) * 2 ^ 1 + x % 2 ^ 1 = ap (λ (j : ℕ). x % 2 ^ j) (sym (add-one n)) ∙ mod-pow-add x n 1 in
      omega (arith, bit_number k)
