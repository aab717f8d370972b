-- What putting one bit leaves in a packet: its byte keeps what is below the bit, and has nothing above it.
use Prim.Native.Nat.{ℕ, ◌+◌, ◌*◌, ◌-◌, ◌/◌, ◌%◌, ◌^◌, ◌≤◌, ◌<◌}
use mathlib.Core.Path.{◌≡◌, refl, sym, ap, ◌∙◌}
use mathlib.Core.Bool.{Bool, true, false}
use mathlib.Core.List.{List}
use native.Mathlib.Nat.{add_comm, zero-div, div-eq_of_lt, mod-lt, mod-eq_of_lt}
use native.Mathlib.Omega.{arith}
use lib.Dec.{eqb, ltb}
use lib.ListN.{length, get_or, length-set, get_or-eq_default}
use lib.Pow.{pow_pos, pow_mono, shr-shr, high, low}
use lib.Seq.{get_or-set_same, get_or-set_other, set_out}
use mir.Val.{bool_byte}
use borrow.Author.Tests.{ltb-true, ltb-false, eqb-true, eqb-false}
use Rattle.bitio_bits.specs.Bits.{bit_at}
use Rattle.bitio_bits.proofs.Numbers.{cut}
use Rattle.writer_spelling.specs.Bits.{put_bit}

-- a byte's bits, where its bit a is put: those below it, it, and those above
module _ (x y a : ℕ) where
  abbrev pub changed : ℕ
  changed = x % 2 ^ a + y * 2 ^ a

  in_order : changed ≡ y * 2 ^ a + x % 2 ^ a
  in_order = add_comm (x % 2 ^ a) (y * 2 ^ a)

  low_part : x % 2 ^ a < 2 ^ a
  low_part = mod-lt x (pow_pos a)

  below_it : (c : ℕ) → c < a → changed / 2 ^ c % 2 ≡ x / 2 ^ c % 2
  below_it c h =
      let kept : changed % 2 ^ a ≡ x % 2 ^ a = ap (λ (z : ℕ). z % 2 ^ a) in_order ∙ low y a low_part in
      sym (cut changed c 1 a (omega arith)) ∙ ap (λ (z : ℕ). z / 2 ^ c % 2) kept ∙ cut x c 1 a (omega arith)

  itself : changed / 2 ^ a ≡ y
  itself = ap (λ (z : ℕ). z / 2 ^ a) in_order ∙ high y a low_part

  above_it : y < 2 → (c : ℕ) → a < c → changed / 2 ^ c % 2 ≡ 0
  above_it l c h =
      let e : c ≡ a + (c - a) = omega arith in
      let none : y / 2 ^ (c - a) ≡ 0 = div-eq_of_lt (omega (arith, pow_mono {i = 1} {j = c - a} (omega arith))) in
      ap (λ (j : ℕ). changed / 2 ^ j % 2) e
      ∙ ap (λ (z : ℕ). z % 2) (sym (shr-shr changed a (c - a)) ∙ ap (λ (z : ℕ). z / 2 ^ (c - a)) itself ∙ none)

bit_byte : (b : Bool) → bool_byte b < 2
bit_byte true = omega arith
bit_byte false = omega arith

module _ (p : List ℕ) (k : ℕ) (b : Bool) where
  pub byte_there : k < 8 * length p → get_or (put_bit p k b) (k / 8) 0 ≡ changed (get_or p (k / 8) 0) (bool_byte b) (k % 8)
  unfolding put_bit
  byte_there h = get_or-set_same p (k / 8) _ 0 (omega arith)

  pub other_bytes : (i : ℕ) → (i ≡ k / 8 → ⊥) → get_or (put_bit p k b) i 0 ≡ get_or p i 0
  unfolding put_bit
  other_bytes i h = get_or-set_other p (k / 8) i _ 0 h

  no_byte : 8 * length p ≤ k → put_bit p k b ≡ p
  unfolding put_bit
  no_byte h = set_out p (k / 8) _ (omega arith)

  pub length_one : length (put_bit p k b) ≡ length p
  unfolding put_bit
  length_one = length-set p (k / 8) _

  pub one_before : (j : ℕ) → j < k → bit_at (put_bit p k b) j ≡ bit_at p j
  unfolding bit_at
  one_before j h = go (eqb (j / 8) (k / 8)) refl (ltb k (8 * length p)) refl
    where
      go : (t : Bool) → eqb (j / 8) (k / 8) ≡ t → (u : Bool) → ltb k (8 * length p) ≡ u → bit_at (put_bit p k b) j ≡ bit_at p j
      go t e false f = ap (λ (q : List ℕ). bit_at q j) (no_byte (ltb-false k (8 * length p) f))
      go false e true f = ap (λ (x : ℕ). x / 2 ^ (j % 8) % 2) (other_bytes (j / 8) (eqb-false (j / 8) (k / 8) e))
      go true e true f =
          let same : j / 8 ≡ k / 8 = eqb-true (j / 8) (k / 8) e in
          ap (λ (i : ℕ). get_or (put_bit p k b) i 0 / 2 ^ (j % 8) % 2) same
          ∙ ap (λ (x : ℕ). x / 2 ^ (j % 8) % 2) (byte_there (ltb-true k (8 * length p) f))
          ∙ below_it (get_or p (k / 8) 0) (bool_byte b) (k % 8) (j % 8) (omega arith)
          ∙ ap (λ (i : ℕ). get_or p i 0 / 2 ^ (j % 8) % 2) (sym same)

  pub one_there : k < 8 * length p → bit_at (put_bit p k b) k ≡ bool_byte b
  unfolding bit_at
  one_there h =
      ap (λ (x : ℕ). x / 2 ^ (k % 8) % 2) (byte_there h) ∙ ap (λ (x : ℕ). x % 2) (itself (get_or p (k / 8) 0) (bool_byte b) (k % 8))
      ∙ mod-eq_of_lt (bit_byte b)

  pub one_spare : (j : ℕ) → k < j → j / 8 ≡ k / 8 → bit_at (put_bit p k b) j ≡ 0
  unfolding bit_at
  one_spare j h same = go (ltb k (8 * length p)) refl
    where
      go : (u : Bool) → ltb k (8 * length p) ≡ u → bit_at (put_bit p k b) j ≡ 0
      go true f =
          ap (λ (i : ℕ). get_or (put_bit p k b) i 0 / 2 ^ (j % 8) % 2) same
          ∙ ap (λ (x : ℕ). x / 2 ^ (j % 8) % 2) (byte_there (ltb-true k (8 * length p) f))
          ∙ above_it (get_or p (k / 8) 0) (bool_byte b) (k % 8) (bit_byte b) (j % 8) (omega arith)
      go false f =
          let past : 8 * length p ≤ k = ltb-false k (8 * length p) f in
          ap (λ (q : List ℕ). bit_at q j) (no_byte past)
          ∙ ap (λ (x : ℕ). x / 2 ^ (j % 8) % 2) (get_or-eq_default p 0 {n = j / 8} (omega arith))
          ∙ ap (λ (x : ℕ). x % 2) (zero-div (2 ^ (j % 8)))
