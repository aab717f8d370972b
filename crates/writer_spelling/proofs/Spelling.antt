-- Numbers as bits: a number above another is its bits after the other's, and so words are put together.
use Prim.Native.Nat.{ℕ, zero, suc, ◌+◌, ◌*◌, ◌/◌, ◌%◌, ◌^◌, ◌≤◌, ◌<◌}
use mathlib.Core.Path.{◌≡◌, refl, sym, ap, ◌∙◌}
use mathlib.Core.Bool.{Bool, true, false, cond}
use mathlib.Core.List.{List, [], ◌∷◌, ◌++◌, append_assoc, append-nil}
use native.Mathlib.Omega.{arith}
use native.Mathlib.Nat.{pow-zero, zero-add, suc-add, add-zero, add_comm, suc-mul, mul_comm, mul-le-mul_right, mod-lt}
use lib.Bits.{block_half, block_odd}
use lib.Dec.{eqb, ltb}
use lib.Pow.{pow_pos, pow-add, split}
use Rattle.bitio_window.specs.Numbers.{log2}
use Rattle.bitio_window.specs.Widths.{serialized_width}
use Rattle.writer_spelling.specs.declared.inner.Bits.{Bits}
use Rattle.writer_spelling.specs.Bits.{number_bits, only_if, serialized_bits}
use Rattle.writer_spelling.specs.Header.{flag_bit}
use Rattle.writer_spelling.specs.Words.{spelt, Whole, Adds}

pub above : (m n x y : ℕ) → x < 2 ^ m → number_bits (m + n) (y * 2 ^ m + x) ≡ number_bits m x ++ number_bits n y
unfolding number_bits
above zero n x y h =
    let e : y * 2 ^ 0 + x ≡ y = omega (arith, pow-zero 2) in
    rw (zero-add, e)
above (suc m) n x y h = rw (suc-add, block_odd, block_half) (ap (λ (l : List Bool). eqb (x % 2) 1 ∷ l) (above m n (x / 2) y (omega (arith, half m))))
  where
    half : (m : ℕ) → 2 ^ suc m ≡ 2 * 2 ^ m
    half m = omega arith

-- bits above the n lowest are none of them
pub low_bits_are : (n x : ℕ) → number_bits n (x % 2 ^ n) ≡ number_bits n x
unfolding number_bits
low_bits_are n x =
    let e : number_bits (n + 0) (x / 2 ^ n * 2 ^ n + x % 2 ^ n) ≡ number_bits n (x % 2 ^ n) ++ [] = above n 0 (x % 2 ^ n) (x / 2 ^ n) (mod-lt x (pow_pos n)) in
    sym (rw (add-zero, split, append-nil) at e)

-- the number put above, as the code shifts it
pub adds : (q : Bits) (value width : ℕ) → Whole q → value < 2 ^ width
    → Adds width q (number_bits width value) (record { word = q.word + value * 2 ^ q.count; count = q.count + width })
adds q value width h v =
    let e : 2 ^ (q.count + width) ≡ 2 ^ width * 2 ^ q.count = pow-add 2 q.count width ∙ mul_comm (2 ^ q.count) (2 ^ width) in
    record {
      spells = ap (number_bits (q.count + width)) (add_comm q.word (value * 2 ^ q.count)) ∙ above q.count width q.word value h.within;
      whole = record { within = omega (arith, h.within, suc-mul value (2 ^ q.count), mul-le-mul_right (2 ^ q.count) v) };
      grows = omega arith;
    }

-- what is not wanted is a 0 of no bits
pub wants : {q r : Bits} (wanted : Bool) (value width : ℕ) → Adds (cond wanted width 0) q (number_bits (cond wanted width 0) (cond wanted value 0)) r
    → Adds width q (only_if wanted (number_bits width value)) r
unfolding only_if number_bits
wants true value width a = a
wants false value width a = record { spells = a.spells; whole = a.whole; grows = omega (arith, a.grows) }

pub none_wide : (wanted : Bool) (value width : ℕ) → value < 2 ^ width → cond wanted value 0 < 2 ^ cond wanted width 0
none_wide true value width h = h
none_wide false value width h = omega arith

pub flag_bits : (b : Bool) → number_bits 1 (cond b 1 0) ≡ flag_bit b
unfolding number_bits
flag_bits true = refl
flag_bits false = refl

pub then : {m n : ℕ} {q r s : Bits} {xs ys : List Bool} → Adds m q xs r → Adds n r ys s → Adds (m + n) q (xs ++ ys) s
then {q = q} {xs = xs} {ys = ys} a b =
    record {
      spells = b.spells ∙ ap (λ (l : List Bool). l ++ ys) a.spells ∙ append_assoc (spelt q) xs ys;
      whole = b.whole;
      grows = omega (arith, a.grows, b.grows);
    }

-- a bound on how many, for one of them
pub at_most : {m n : ℕ} {q r : Bits} {xs : List Bool} → m ≤ n → Adds m q xs r → Adds n q xs r
at_most h a = record { spells = a.spells; whole = a.whole; grows = omega (arith, a.grows) }

-- a serialized number's bits are its lowest, as many as it takes
pub serialized_bits_are : (m x : ℕ) → serialized_bits m x ≡ number_bits (serialized_width m x) x
unfolding serialized_bits serialized_width only_if
serialized_bits_are m x = go (ltb (x % 2 ^ log2 m + 2 ^ log2 m) m)
  where
    go : (t : Bool) → number_bits (log2 m) x ++ only_if t (number_bits 1 (x / 2 ^ log2 m)) ≡ number_bits (log2 m + cond t 1 0) x
    go true =
        let e : number_bits (log2 m + 1) (x / 2 ^ log2 m * 2 ^ log2 m + x % 2 ^ log2 m) ≡ number_bits (log2 m) (x % 2 ^ log2 m) ++ number_bits 1 (x / 2 ^ log2 m) = above (log2 m) 1 (x % 2 ^ log2 m) (x / 2 ^ log2 m) (mod-lt x (pow_pos (log2 m))) in
        sym (rw (split, low_bits_are) at e)
    go false = rw add-zero (append-nil (number_bits (log2 m) x))
