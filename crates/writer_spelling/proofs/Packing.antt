-- A packed number byte by byte: the loop's invariant, its turn and its end.
use Prim.Native.Nat.{ℕ, zero, suc, ◌+◌, ◌*◌, ◌/◌, ◌%◌, ◌^◌, ◌≤◌, ◌<◌}
use mathlib.Core.Path.{◌≡◌, refl, sym, ap, ◌∙◌}
use mathlib.Core.Bool.{Bool}
use mathlib.Core.List.{List, ◌∷◌, ◌++◌, append_assoc}
use native.Mathlib.Omega.{arith}
use borrow.Author.Tests.{lt-ltb, le-ltb}
use lib.Dec.{eqb}
use lib.Pow.{shr_lt}
use native.Mathlib.Nat.{zero-add}
use Rattle.writer_spelling.specs.declared.inner.Bits.{Bits}
use Rattle.writer_spelling.specs.Bits.{number_bits, packed_up_to, packed_bits}
use Rattle.writer_spelling.specs.Words.{spelt, Whole, Adds}
use Rattle.writer_spelling.proofs.Spelling.{low_bits_are}

-- a byte's value bits after its lowest
byte : (more x : ℕ) → more < 2 → number_bits 8 (more + 2 * x) ≡ eqb more 1 ∷ number_bits 7 x
unfolding number_bits
byte more x h =
    let e : (more + 2 * x) % 2 ≡ more = omega arith in
    let f : (more + 2 * x) / 2 ≡ x = omega arith in
    rw (e, f)

-- where more follow
more_follow : (n x : ℕ) → 128 ≤ x → packed_up_to (suc n) x ≡ number_bits 8 (1 + 2 * (x % 128)) ++ packed_up_to n (x / 128)
unfolding packed_up_to
more_follow n x h = rw (le-ltb x 128 h, byte 1 (x % 128) (omega arith), low_bits_are 7 x)

last_byte : (n x : ℕ) → x < 128 → packed_up_to n x ≡ number_bits 8 (2 * x)
unfolding packed_up_to
last_byte zero x h = sym (rw zero-add at (byte 0 x (omega arith)))
last_byte (suc n) x h = rw (lt-ltb x 128 h) (sym (rw zero-add at (byte 0 x (omega arith))))

-- what is packed and what is left of the number, with so many bytes that may follow
pub record Packing (q : Bits) (number : ℕ) (to : Bits) (rest : ℕ) : Type 0 where
  pub follow : ℕ
  pub spells : spelt to ++ packed_up_to follow rest ≡ spelt q ++ packed_bits number
  pub whole : Whole to
  pub counted : to.count + 8 * follow ≤ q.count + 32
  pub small : rest < 2 ^ (4 + 7 * follow)

pub begins : (q : Bits) (number : ℕ) → Whole q → number < 2 ^ 32 → Packing q number q number
unfolding packed_bits
begins q number w h = record { follow = 4; spells = refl; whole = w; counted = omega arith; small = omega arith }

pub goes_on : {q to next : Bits} {number rest : ℕ} → Packing q number to rest → 128 ≤ rest → Adds 8 to (number_bits 8 (1 + 2 * (rest % 128))) next → Packing q number next (rest / 128)
goes_on {q = q} {to = to} {next = next} {number = number} {rest = rest} p h a = turn p.follow refl
  where
    more : (n : ℕ) → 4 + 7 * suc n ≡ 4 + 7 * n + 7
    more n = omega arith

    turn : (n : ℕ) → p.follow ≡ n → Packing q number next (rest / 128)
    turn zero e = absurd (omega (arith, rw e at p.small))
    turn (suc n) e =
        record {
          follow = n;
          spells = ap (λ (l : List Bool). l ++ packed_up_to n (rest / 128)) a.spells ∙ append_assoc (spelt to) _ _ ∙ ap (λ (l : List Bool). spelt to ++ l) (sym (more_follow n rest h)) ∙ (rw e at p.spells);
          whole = a.whole;
          counted = omega (arith, a.grows, p.counted);
          small = shr_lt (4 + 7 * n) 7 (rw (e, more n) at p.small);
        }

pub ends : {q to next : Bits} {number rest : ℕ} → Packing q number to rest → rest < 128 → Adds 8 to (number_bits 8 (2 * rest)) next → Adds 40 q (packed_bits number) next
ends {to = to} {rest = rest} p h a = record {
  spells = a.spells ∙ ap (λ (l : List Bool). spelt to ++ l) (sym (last_byte p.follow rest h)) ∙ p.spells;
  whole = a.whole;
  grows = omega (arith, a.grows, p.counted);
}

-- an ignored number is a byte of zeros
pub zero_bits : packed_bits 0 ≡ number_bits 8 0
unfolding packed_bits
zero_bits = last_byte 4 0 (omega arith)
