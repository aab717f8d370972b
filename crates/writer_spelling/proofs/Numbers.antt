-- Numbers, packed and serialized, are read back from their bits: each read takes the lowest bits, and the next what is left.
use Prim.Native.Nat.{ℕ, zero, suc, ◌+◌, ◌*◌, ◌/◌, ◌%◌, ◌^◌, ◌≤◌, ◌<◌}
use mathlib.Core.Path.{◌≡◌, refl, sym, ap, ◌∙◌}
use mathlib.Core.Bool.{Bool, true, false, cond}
use mathlib.Core.List.{List, [], ◌∷◌, ◌++◌}
use native.Mathlib.Nat.{add_comm, mod-one, mod-eq_of_lt, pow-suc}
use native.Mathlib.Numerals.{add-one}
use native.Mathlib.Omega.{arith}
use lib.Dec.{eqb, ltb}
use lib.Pow.{mod-pow-add, recompose}
use borrow.Author.Tests.{le-ltb, ltb-true, ltb-false, eq-eqb, ne_eqb, eqb-true, eqb-false}
use Rattle.bitio_window.specs.declared.Place.{Place}
use Rattle.bitio_bits.specs.Bits.{bit_at, bits_at}
use Rattle.bitio_window.specs.Refusals.{place_of, endless, too_large}
use Rattle.bitio_window.specs.Parse.{got, ◌>>=◌, give, read_if, place, advanced}
use Rattle.bitio_window.specs.Reads.{bits, bit}
use Rattle.bitio_window.specs.Numbers.{packed_from, packed, log2, serialized}
use Rattle.bitio_bits.proofs.Numbers.{bits_lt, bits_one}
use Rattle.bitio_window.proofs.Widths.{below_twice, below_top}
use Rattle.bitio_window.proofs.Steps.{bits_there}
use Rattle.writer_spelling.specs.Bits.{number_bits, bits_from, only_if, packed_up_to, packed_bits, serialized_bits}
use Rattle.writer_spelling.proofs.Lists.{length_bits_of}
use Rattle.writer_spelling.proofs.Reading.{Reads, reads_nothing, reads_same, reads_past, reads_then, reads_last}

bit_lt : (d : List ℕ) (k : ℕ) → bit_at d k < 2
bit_lt d k = rw bits_one at (bits_lt d k 1)

same_bit : (a b : ℕ) → a < 2 → b < 2 → eqb a 1 ≡ eqb b 1 → a ≡ b
same_bit a b f g e = go (eqb b 1) refl
  where
    go : (t : Bool) → eqb b 1 ≡ t → a ≡ b
    go true h = eqb-true a 1 (e ∙ h) ∙ sym (eqb-true b 1 h)
    go false h = omega (arith, eqb-false a 1 (e ∙ h), eqb-false b 1 h)

-- bits that are those of a number make its lowest bits
from_of : (d : List ℕ) (k n x : ℕ) → bits_from d k n ≡ number_bits n x → bits_at d k n ≡ x % 2 ^ n
unfolding bits_from number_bits bits_at
from_of d k zero x h = sym (mod-one x)
from_of d k (suc n) x h =
    let first : eqb (bit_at d k) 1 ≡ eqb (x % 2) 1 = cc in
    let rest : bits_from d (k + 1) n ≡ number_bits n (x / 2) = cc in
    let e : bit_at d k ≡ x % 2 = same_bit (bit_at d k) (x % 2) (bit_lt d k) (omega arith) first in
    let all : x % 2 ^ suc n ≡ (x / 2 ^ 1 % 2 ^ n) * 2 ^ 1 + x % 2 ^ 1 = ap (λ (j : ℕ). x % 2 ^ j) (sym (add-one n)) ∙ mod-pow-add x n 1 in
    omega (arith, from_of d (k + 1) n (x / 2) rest)

pub reads_bits : (n x : ℕ) → Reads (bits n) (number_bits n x) (x % 2 ^ n)
reads_bits n x =
    record {
      back = λ d w h l.
          let e = length_bits_of n x in
          rw e (bits_there d w n (rw e at l) ∙ ap (λ (y : ℕ). got y (advanced w n)) (from_of d (w.start.0 + w.position.0) n x (rw e at h)));
    }

pub reads_bit : (b : Bool) → Reads bit (b ∷ []) b
unfolding bit number_bits
reads_bit true = reads_last _ (reads_bits 1 1) (reads_nothing _)
reads_bit false = reads_last _ (reads_bits 1 0) (reads_nothing _)

-- a byte of a packed number, its low bit first
byte : (more x : ℕ) → more < 2 → eqb more 1 ∷ number_bits 7 x ≡ number_bits 8 (more + 2 * x)
unfolding number_bits
byte more x h = let e : (more + 2 * x) % 2 ≡ more = omega arith in let f : (more + 2 * x) / 2 ≡ x = omega arith in rw (e, f)

module _ (start : Place) where
  reads_packed_from : (n x : ℕ) → x < 16 * 128 ^ n → Reads (packed_from n start) (packed_up_to n x) x
  unfolding packed_from packed_up_to read_if
  reads_packed_from zero x h =
      let b : ℕ = (0 + 2 * x) % 2 ^ 8 in
      reads_same
      (reads_last _ (reads_bits 8 (0 + 2 * x))
      (reads_past (endless start) _ (ne_eqb (b % 2) 1 (omega arith)) (reads_past (too_large start) _ (le-ltb 15 (b / 2) (omega arith)) (reads_nothing (b / 2)))))
      (sym (byte 0 x (omega arith))) (omega arith)
  reads_packed_from (suc n) x h =
      go (ltb x 128) refl (reads_packed_from n (x / 128) (omega (arith, pow-suc 128 n)))
    where
      go : (t : Bool) → ltb x 128 ≡ t → Reads (packed_from n start) (packed_up_to n (x / 128)) (x / 128)
          → Reads (packed_from (suc n) start) (cond t (false ∷ number_bits 7 x) (true ∷ (number_bits 7 x ++ packed_up_to n (x / 128)))) x
      go true e r =
          let b : ℕ = (0 + 2 * x) % 2 ^ 8 in
          reads_same {a = b / 2 + 128 * 0} (reads_last _ (reads_bits 8 (0 + 2 * x)) (rw (ne_eqb (b % 2) 1 (omega arith)) (reads_last _ (reads_nothing 0) (reads_nothing _))))
          (sym (byte 0 x (omega arith))) (omega (arith, ltb-true))
      go false e r =
          let b : ℕ = (1 + 2 * x) % 2 ^ 8 in
          reads_same {a = b / 2 + 128 * (x / 128)} (reads_then _ (reads_bits 8 (1 + 2 * x)) (rw (eq-eqb (b % 2) 1 (omega arith)) (reads_last _ r (reads_nothing _))))
          (ap (λ (bs : List Bool). bs ++ packed_up_to n (x / 128)) (sym (byte 1 x (omega arith)))) (omega arith)

pub reads_packed : (x : ℕ) → x < 2 ^ 32 → Reads packed (packed_bits x) x
unfolding packed place ◌>>=◌ packed_bits
reads_packed x h = record { back = λ d w. (reads_packed_from (place_of w) 4 x (omega arith)).back d w }

module _ (m x : ℕ) (h : x < m) (f : m < 2 ^ 32) where
  abbrev n : ℕ
  n = log2 m

  with_top : x % 2 ^ n + x / 2 ^ n % 2 ^ 1 * 2 ^ n ≡ x
  with_top = add_comm (x % 2 ^ n) (x / 2 ^ n % 2 ^ 1 * 2 ^ n) ∙ recompose 1 n (rw (add_comm n 1) at (below_twice m f x h))

  without_top : m ≤ x % 2 ^ n + 2 ^ n → x % 2 ^ n + 0 * 2 ^ n ≡ x
  without_top g = omega (arith, mod-eq_of_lt (below_top m f x h g))

  top_or_none : (t : Bool) → ltb (x % 2 ^ n + 2 ^ n) m ≡ t
      → Reads (read_if t 0 (bits 1) >>= (λ top. give (x % 2 ^ n + top * 2 ^ n))) (only_if t (number_bits 1 (x / 2 ^ n))) x
  unfolding read_if only_if
  top_or_none true e = reads_last _ (reads_bits 1 (x / 2 ^ n)) (reads_same (reads_nothing _) refl with_top)
  top_or_none false e = reads_last _ (reads_nothing 0) (reads_same (reads_nothing _) refl (without_top (ltb-false (x % 2 ^ n + 2 ^ n) m e)))

  pub reads_serialized : Reads (serialized m) (serialized_bits m x) x
  unfolding serialized serialized_bits
  reads_serialized = reads_then _ (reads_bits n x) (top_or_none (ltb (x % 2 ^ n + 2 ^ n) m) refl)
