-- A bunch in three pieces: the header's two words, and the payload.
use Prim.Native.Nat.{ℕ, ◌+◌, ◌<◌}
use mathlib.Core.Path.{◌≡◌, sym, ap, ap₂, ◌∙◌}
use mathlib.Core.Bool.{Bool}
use mathlib.Core.List.{List, ◌∷◌, ◌++◌, append_assoc}
use native.Mathlib.Omega.{arith}
use lib.ListN.{length, length-append}
use Rattle.packet_header.specs.declared.BunchFields.{BunchFields}
use Rattle.writer_spelling.specs.declared.inner.Bits.{Bits}
use Rattle.writer_spelling.specs.Bits.{number_bits, bits_from, put_bits}
use Rattle.writer_spelling.specs.Header.{front_bits, back_bits, header_bits}
use Rattle.writer_spelling.specs.Words.{spelt, Adds, nothing}
use Rattle.writer_spelling.proofs.Lists.{length_bits_of, length_bits_from, put_append}

-- bits that are spelt are not none
spelt_some : (q : Bits) {b : Bool} {bits : List Bool} → spelt q ≡ b ∷ bits → 0 < q.count
spelt_some q e = omega (arith, length_bits_of q.count q.word, ap length e)

pub front_some : (f : BunchFields) {m : ℕ} {q : Bits} → Adds m nothing (front_bits f) q → 0 < q.count
unfolding front_bits number_bits
front_some f {q = q} a = spelt_some q a.spells

pub back_some : (f : BunchFields) {m : ℕ} {q : Bits} → Adds m nothing (back_bits f) q → 0 < q.count
unfolding back_bits number_bits
back_some f {q = q} a = spelt_some q a.spells

module _ (f : BunchFields) (d : List ℕ) (n : ℕ) {l m : ℕ} {u v : Bits} (a : Adds l nothing (front_bits f) u) (b : Adds m nothing (back_bits f) v) where
  spelt_front : spelt u ≡ front_bits f
  unfolding number_bits
  spelt_front = a.spells

  spelt_back : spelt v ≡ back_bits f
  unfolding number_bits
  spelt_back = b.spells

  whole : header_bits f ++ bits_from d 0 n ≡ spelt u ++ (spelt v ++ bits_from d 0 n)
  unfolding header_bits
  whole = rw (← spelt_front, ← spelt_back) (append_assoc (spelt u) (spelt v) (bits_from d 0 n))

  pub length_bunch : length (header_bits f ++ bits_from d 0 n) ≡ u.count + v.count + n
  length_bunch =
      rw whole
      (omega (arith, length-append (spelt u) (spelt v ++ bits_from d 0 n), length-append (spelt v) (bits_from d 0 n), length_bits_of u.count u.word, length_bits_of v.count v.word, length_bits_from d 0 n))

  pub put_bunch : (p : List ℕ) (at : ℕ) → put_bits (put_bits (put_bits p at (spelt u)) (at + u.count) (spelt v)) (at + u.count + v.count) (bits_from d 0 n) ≡ put_bits p at (header_bits f ++ bits_from d 0 n)
  put_bunch p at =
      sym
      (ap (put_bits p at) whole
      ∙ put_append p at (spelt u) (spelt v ++ bits_from d 0 n)
      ∙ put_append (put_bits p at (spelt u)) (at + length (spelt u)) (spelt v) (bits_from d 0 n)
      ∙ ap₂ (λ (i j : ℕ). put_bits (put_bits (put_bits p at (spelt u)) (at + i) (spelt v)) (at + i + j) (bits_from d 0 n)) (length_bits_of u.count u.word) (length_bits_of v.count v.word))

-- a second word's bits added to the first
module _ (u v : Bits) {m : ℕ} {q : Bits} (a : Adds m u (spelt v) q) where
  pub both_count : q.count ≡ u.count + v.count
  both_count =
      omega (arith, length_bits_of q.count q.word, ap length a.spells, length-append (spelt u) (spelt v), length_bits_of u.count u.word, length_bits_of v.count v.word)

  pub put_both : (p : List ℕ) (at : ℕ) → put_bits p at (spelt q) ≡ put_bits (put_bits p at (spelt u)) (at + u.count) (spelt v)
  put_both p at =
      ap (put_bits p at) a.spells ∙ put_append p at (spelt u) (spelt v)
      ∙ ap (λ (i : ℕ). put_bits (put_bits p at (spelt u)) (at + i) (spelt v)) (length_bits_of u.count u.word)
