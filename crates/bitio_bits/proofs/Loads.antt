-- What one load of eight bytes, with the ninth, has of the bits from bit k on.
use mathlib.Core.Path.{◌≡◌, ap, sym, ◌∙◌, subst}
use mathlib.Core.List.{List}
use Prim.Native.Nat.{ℕ, suc, ◌+◌, ◌*◌, ◌-◌, ◌/◌, ◌%◌, ◌^◌, ◌≤◌, ◌<◌}
use native.Mathlib.Nat.{mod-lt, mod-eq_of_lt, div-eq_of_lt, lt_of_le_of_lt, lt_of_lt_of_le, add_comm, mul-mod_left, add-zero, div-one}
use native.Mathlib.Numerals.{add-one}
use native.Mathlib.Omega.{arith}
use lib.ListN.{length, get_or}
use lib.Pow.{shr_le, shr_lt, shr-shr, field, mod-pow-add, shl-shr, pow_pos, pow_mono}
use Rattle.bitio_bits.specs.Bits.{bits_at}
use Rattle.bitio_bits.specs.Words.{eight_at, Peeked}
use Rattle.bitio_bits.proofs.Numbers.{Bytes, number_lt, from, cut, cut_low, from_step, from_bit, number, bits_number}

module _ (d : List ℕ) (b : Bytes d) (i : ℕ) where
  at : (j : ℕ) → from d (i + j) ≡ get_or d (i + j) 0 + 256 * from d (i + (j + 1))
  at j = let e : suc (i + j) ≡ i + (j + 1) = omega arith in from_step d b (i + j) ∙ ap (λ (n : ℕ). get_or d (i + j) 0 + 256 * from d n) e

  small : (j : ℕ) → get_or d (i + j) 0 < 256
  small j = b (i + j)

  first : from d i ≡ get_or d i 0 + 256 * from d (i + 1)
  first = from_step d b i ∙ ap (λ (n : ℕ). get_or d i 0 + 256 * from d n) (sym (add-one i))

  whole : from d i ≡ eight_at d i + 2 ^ 64 * from d (i + 8)
  whole = omega (arith, first, at 1, at 2, at 3, at 4, at 5, at 6, at 7)

  pub eight_lt : eight_at d i < 2 ^ 64
  eight_lt = omega (arith, b i, small 1, small 2, small 3, small 4, small 5, small 6, small 7)

  pub eight_low : eight_at d i ≡ from d i % 2 ^ 64
  eight_low = omega (arith, eight_lt, whole)

  pub ninth : from d i / 2 ^ 64 % 2 ^ 8 ≡ get_or d (i + 8) 0
  ninth = let q : from d i / 2 ^ 64 ≡ from d (i + 8) = omega (arith, eight_lt, whole) in omega (arith, at 8, small 8)

-- the data ends: nothing is left from there on
pub from_end : (d : List ℕ) → Bytes d → (i : ℕ) → length d ≤ i → from d i ≡ 0
from_end d b i h = div-eq_of_lt (lt_of_lt_of_le (number_lt d b) (pow_mono {i = 8 * length d} {j = 8 * i} (omega arith)))

-- at most seven bytes make a number of 56 bits
pub few_bytes : (d : List ℕ) → Bytes d → (i : ℕ) → i ≤ length d → length d < i + 8 → from d i < 2 ^ 56
few_bytes d b i h f =
    let e : 8 * length d ≡ 8 * (length d - i) + 8 * i = omega arith in
    lt_of_lt_of_le (shr_lt (8 * (length d - i)) (8 * i) (rw e at (number_lt d b))) (pow_mono {i = 8 * (length d - i)} {j = 56} (omega arith))

-- with fewer than eight bytes left the load is all of them
pub last_eight : (d : List ℕ) (b : Bytes d) (i : ℕ) → length d < i + 8 → from d i ≡ eight_at d i
last_eight d b i h = omega (arith, whole d b i, from_end d b (i + 8) (omega arith))

-- 64 bits of x from bit o on: those of its low word, and above them those of the byte that follows
joined : (x o g : ℕ) → o + g ≡ 64 → o ≤ 8 → x % 2 ^ 64 / 2 ^ o + (x / 2 ^ 64 % 2 ^ 8) * 2 ^ g % 2 ^ 64 ≡ x / 2 ^ o % 2 ^ 64
joined x o g e h =
    let y : ℕ = x / 2 ^ 64 % 2 ^ 8 in
    let under : x % 2 ^ 64 / 2 ^ o ≡ x / 2 ^ o % 2 ^ g = ap (λ (k : ℕ). x % 2 ^ k / 2 ^ o) (sym e ∙ add_comm o g) ∙ field x g o in
    let over : (y * 2 ^ g) % 2 ^ 64 ≡ (y % 2 ^ o) * 2 ^ g =
    subst (λ (k : ℕ). (y * 2 ^ g) % 2 ^ k ≡ (y % 2 ^ o) * 2 ^ g) e
    (mod-pow-add (y * 2 ^ g) o g
    ∙ ap (λ (n : ℕ). (y * 2 ^ g / 2 ^ g % 2 ^ o) * 2 ^ g + n) (mul-mod_left y (2 ^ g))
    ∙ add-zero ((y * 2 ^ g / 2 ^ g % 2 ^ o) * 2 ^ g)
    ∙ ap (λ (n : ℕ). (n % 2 ^ o) * 2 ^ g) (shl-shr y g)) in
    let whole : x / 2 ^ o % 2 ^ 64 ≡ (x / 2 ^ o / 2 ^ g % 2 ^ o) * 2 ^ g + x / 2 ^ o % 2 ^ g =
    subst (λ (k : ℕ). x / 2 ^ o % 2 ^ k ≡ (x / 2 ^ o / 2 ^ g % 2 ^ o) * 2 ^ g + x / 2 ^ o % 2 ^ g) e (mod-pow-add (x / 2 ^ o) o g) in
    let high : x / 2 ^ o / 2 ^ g % 2 ^ o ≡ y % 2 ^ o =
    ap (λ (n : ℕ). n % 2 ^ o) (shr-shr x o g ∙ ap (λ (k : ℕ). x / 2 ^ k) e) ∙ sym (cut_low (x / 2 ^ 64) o 8 h) in
    let high' : (x / 2 ^ o / 2 ^ g % 2 ^ o) * 2 ^ g ≡ (y % 2 ^ o) * 2 ^ g = ap (λ (n : ℕ). n * 2 ^ g) high in
    omega arith

-- l is what was loaded at bit k's byte
module _ (d : List ℕ) (b : Bytes d) (k : ℕ) {l : ℕ} (el : l ≡ eight_at d (k / 8)) where
  low : l ≡ from d (k / 8) % 2 ^ 64
  low = el ∙ eight_low d b (k / 8)

  -- n bits, j bits on, that the load holds
  loaded : (j n : ℕ) → n + (k % 8 + j) ≤ 64 → l / 2 ^ (k % 8) / 2 ^ j % 2 ^ n ≡ bits_at d (k + j) n
  loaded j n f =
      let x : ℕ = from d (k / 8) in
      ap (λ (y : ℕ). y / 2 ^ (k % 8) / 2 ^ j % 2 ^ n) low ∙ ap (λ (y : ℕ). y % 2 ^ n) (shr-shr (x % 2 ^ 64) (k % 8) j)
      ∙ cut x (k % 8 + j) n 64 f ∙ ap (λ (y : ℕ). y % 2 ^ n) (sym (shr-shr x (k % 8) j))
      ∙ ap (λ (y : ℕ). y / 2 ^ j % 2 ^ n) (sym (from_bit d b k)) ∙ ap (λ (y : ℕ). y % 2 ^ n) (shr-shr (number d) k j)
      ∙ sym (bits_number d b n (k + j))

  pub peeked : Peeked d k (l / 2 ^ (k % 8))
  peeked = record { field = λ j n f. loaded j n (omega arith) }

  pub short_read : (n : ℕ) → n + k % 8 ≤ 64 → l / 2 ^ (k % 8) % 2 ^ n ≡ bits_at d k n
  short_read n f =
      ap (λ (y : ℕ). y % 2 ^ n) (sym (div-one (l / 2 ^ (k % 8)))) ∙ loaded 0 n (omega arith) ∙ ap (λ (j : ℕ). bits_at d j n) (add-zero k)

  -- all of the load, where bit k is its first
  pub whole_load : k % 8 ≡ 0 → l / 2 ^ (k % 8) ≡ bits_at d k 64
  whole_load z =
      sym (mod-eq_of_lt (lt_of_le_of_lt (shr_le l (k % 8)) (rw (sym el) at (eight_lt d b (k / 8))))) ∙ short_read 64 (omega arith)

  -- h is the byte that follows the load
  module _ {h : ℕ} (eh : h ≡ get_or d (k / 8 + 8) 0) where
    both : l / 2 ^ (k % 8) + h * 2 ^ (64 - k % 8) % 2 ^ 64 ≡ from d (k / 8) / 2 ^ (k % 8) % 2 ^ 64
    both = rw (low, eh, ← ninth d b (k / 8)) (joined (from d (k / 8)) (k % 8) (64 - k % 8) (omega arith) (omega arith))

    pub both_lt : l / 2 ^ (k % 8) + h * 2 ^ (64 - k % 8) % 2 ^ 64 < 2 ^ 64
    both_lt = rw both (mod-lt (from d (k / 8) / 2 ^ (k % 8)) (pow_pos 64))

    pub long_read : (n : ℕ) → n ≤ 64 → (l / 2 ^ (k % 8) + h * 2 ^ (64 - k % 8) % 2 ^ 64) % 2 ^ n ≡ bits_at d k n
    long_read n f =
        rw both
        (cut_low (from d (k / 8) / 2 ^ (k % 8)) n 64 f ∙ ap (λ (y : ℕ). y % 2 ^ n) (sym (from_bit d b k)) ∙ sym (bits_number d b n k))

    pub whole_word : l / 2 ^ (k % 8) + h * 2 ^ (64 - k % 8) % 2 ^ 64 ≡ bits_at d k 64
    whole_word = sym (mod-eq_of_lt both_lt) ∙ long_read 64 (omega arith)

pub peeked_low : (d : List ℕ) (k : ℕ) {x : ℕ} (n : ℕ) → Peeked d k x → n ≤ 57 → x % 2 ^ n ≡ bits_at d k n
peeked_low d k {x} n p f = ap (λ (y : ℕ). y % 2 ^ n) (sym (div-one x)) ∙ p.field 0 n (omega arith) ∙ ap (λ (j : ℕ). bits_at d j n) (add-zero k)
