-- Lists of bits: how long they are, how they are cut, and one put after the other.
use mathlib.Core.Path.{◌≡◌, refl, ap, ap₂, sym, ◌∙◌}
use mathlib.Core.Bool.{Bool}
use mathlib.Core.List.{List, [], ◌∷◌, ◌++◌}
use Prim.Native.Nat.{ℕ, zero, suc, ◌+◌, ◌*◌, ◌/◌, ◌%◌}
use native.Mathlib.Nat.{add-zero, zero-add, suc-add}
use native.Mathlib.Omega.{arith}
use lib.Dec.{eqb}
use lib.ListN.{length, length-set}
use Rattle.bitio_bits.specs.Bits.{bit_at, bits_at}
use Rattle.writer_spelling.specs.Bits.{number_bits, bits_from, put_bit, put_bits}

pub length_bits_of : (n x : ℕ) → length (number_bits n x) ≡ n
unfolding number_bits
length_bits_of zero x = refl
length_bits_of (suc n) x = ap suc (length_bits_of n (x / 2))

pub length_bits_from : (d : List ℕ) (k n : ℕ) → length (bits_from d k n) ≡ n
unfolding bits_from
length_bits_from d k zero = refl
length_bits_from d k (suc n) = ap suc (length_bits_from d (k + 1) n)

pub from_append : (d : List ℕ) (k m n : ℕ) → bits_from d k (m + n) ≡ bits_from d k m ++ bits_from d (k + m) n
unfolding bits_from
from_append d k zero n = ap₂ (bits_from d) (sym (add-zero k)) (zero-add n)
from_append d k (suc m) n =
    let e : k + 1 + m ≡ k + suc m = omega arith in
    ap (bits_from d k) (suc-add m n) ∙ ap (λ (t : List Bool). eqb (bit_at d k) 1 ∷ t) (from_append d (k + 1) m n ∙ ap (λ (j : ℕ). bits_from d (k + 1) m ++ bits_from d j n) e)

-- the bits of the number that n bits make are those bits
pub of_at : (d : List ℕ) (k n : ℕ) → number_bits n (bits_at d k n) ≡ bits_from d k n
unfolding number_bits bits_from bits_at bit_at
of_at d k zero = refl
of_at d k (suc n) =
    let first : (bit_at d k + 2 * bits_at d (k + 1) n) % 2 ≡ bit_at d k = omega arith in
    let rest : (bit_at d k + 2 * bits_at d (k + 1) n) / 2 ≡ bits_at d (k + 1) n = omega arith in
    ap₂ (λ (a b : ℕ). eqb a 1 ∷ number_bits n b) first rest ∙ ap (λ (t : List Bool). eqb (bit_at d k) 1 ∷ t) (of_at d (k + 1) n)

pub length_put : (p : List ℕ) (k : ℕ) (bits : List Bool) → length (put_bits p k bits) ≡ length p
unfolding put_bits put_bit
length_put p k [] = refl
length_put p k (b ∷ bits) = length_put (put_bit p k b) (k + 1) bits ∙ simp length-set

pub put_append : (p : List ℕ) (k : ℕ) (xs ys : List Bool) → put_bits p k (xs ++ ys) ≡ put_bits (put_bits p k xs) (k + length xs) ys
unfolding put_bits
put_append p k [] ys = ap (λ (j : ℕ). put_bits p j ys) (sym (add-zero k))
put_append p k (x ∷ xs) ys =
    let e : k + 1 + length xs ≡ k + suc (length xs) = omega arith in
    put_append (put_bit p k x) (k + 1) xs ys ∙ ap (λ (j : ℕ). put_bits (put_bits (put_bit p k x) (k + 1) xs) j ys) e
