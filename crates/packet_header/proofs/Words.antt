-- A field of a peeked word is a read of the data, and reads in a row are one read.
use Prim.Native.Nat.{ℕ, suc, ◌+◌, ◌*◌, ◌-◌, ◌/◌, ◌%◌, ◌^◌, ◌≤◌, ◌<◌}
use mathlib.Core.Path.{◌≡◌, refl, sym, ap, ap₂, ◌∙◌}
use mathlib.Core.Bool.{Bool, true, false, ◌&&◌, cond, true≢false}
use mathlib.Core.List.{List}
use native.Mathlib.Nat.{div-one, mod-one, add-zero, add_comm, zero-mul}
use native.Mathlib.Omega.{arith}
use lib.Dec.{eqb, ltb, leb}
use lib.Pow.{shr-shr, mod-pow-add}
use borrow.Author.Tests.{leb-true, eq-eqb, ne_eqb, eqb-true, eqb-false}
use Rattle.bitio_window.specs.declared.Window.{Window}
use Rattle.bitio_window.specs.declared.Place.{Place}
use Rattle.bitio_bits.specs.Bits.{bits_at}
use Rattle.bitio_bits.specs.Words.{Peeked}
use Rattle.bitio_window.specs.Refusals.{place_of}
use Rattle.bitio_window.specs.Parse.{Answer, got, Parse, and_then, ◌>>=◌, give, read_if, place, advanced}
use Rattle.bitio_window.specs.Reads.{bits, bit}
use Rattle.bitio_window.specs.Numbers.{packed_from, packed, log2, serialized}
use Rattle.bitio_window.specs.Widths.{serialized_width}
use Rattle.bitio_bits.proofs.Numbers.{cut}
use Rattle.bitio_window.proofs.Steps.{bits_there}
use Rattle.packet_header.specs.declared.BunchFields.{BunchFields}
use Rattle.packet_header.specs.declared.inner.quick.Rest.{Rest}
use Rattle.packet_header.specs.Word.{Ahead, Within, Reads, shifted}

both : (a b : Bool) → a && b ≡ true → (a ≡ true) × (b ≡ true)
both true b h = (refl, h)
both false b h = absurd (true≢false (sym h))

-- the one test of all the bits used
pub tested : (w : Window) (used : ℕ) → (leb used 57 && leb used (w.length - w.position.0)) ≡ true → Within w used
tested w used t =
    let h = both (leb used 57) (leb used (w.length - w.position.0)) t in
    record { in_word = leb-true _ _ h.0; in_window = leb-true _ _ h.1 }

within : {w : Window} {m n : ℕ} → m ≤ n → Within w n → Within w m
within h f = record { in_word = omega (arith, f.in_word); in_window = omega (arith, f.in_window) }

module _ {A : Type 0} where
  pub gives : (a : A) (q : Rest) → Reads (give a) q a q
  unfolding give
  gives a q = record { grows = omega arith; ahead = λ d w h. h; same = λ d w h f. refl }

  which_is : {p : Parse A} {q m n : Rest} {a b : A} → Reads p q a m → a ≡ b → m ≡ n → Reads p q b n
  which_is r e f = rw (← e, ← f) r

  -- nothing is claimed of a read that used more bits than a word has
  beyond : (p : Parse A) (q : Rest) (a : A) (n : ℕ) → 57 < n → Reads p q a (shifted q n)
  beyond p q a n o =
      record {
        grows = omega arith;
        ahead = λ d w h. record { field = λ j m f. absurd (omega arith) };
        same = λ d w h f. absurd (omega (arith, f.in_word));
      }

passed_none : (q : Rest) → q ≡ shifted q 0
passed_none q = sym (ap (λ (x : ℕ). record { word = x; used = q.used + 0 }) (div-one q.word) ∙ ap (λ (u : ℕ). record { word = q.word; used = u }) (add-zero q.used))

passed_twice : (q : Rest) (m n : ℕ) → shifted (shifted q m) n ≡ shifted q (m + n)
passed_twice q m n =
    let e : q.used + m + n ≡ q.used + (m + n) = omega arith in
    ap (λ (x : ℕ). record { word = x; used = q.used + m + n }) (shr-shr q.word m n)
    ∙ ap (λ (u : ℕ). record { word = q.word / 2 ^ (m + n); used = u }) e

module _ {A B : Type 0} where
  pub then : {p : Parse A} {q m n : Rest} {a : A} {b : B} (k : A → Parse B) → Reads p q a m → Reads (k a) m b n → Reads (p >>= k) q b n
  unfolding ◌>>=◌
  then k r s =
      record {
        grows = omega (arith, r.grows, s.grows);
        ahead = λ d w h. s.ahead d w (r.ahead d w h);
        same = λ d w h f.
            ap (λ (x : Answer A). and_then x (λ a. k a d)) (r.same d w h (within s.grows f)) ∙ s.same d w (r.ahead d w h) f;
      }

takes : (q : Rest) (n : ℕ) → Reads (bits n) q (q.word % 2 ^ n) (shifted q n)
takes q n =
    record {
      grows = omega arith;
      ahead = λ d w h.
          record {
            field = λ j m f.
                let e : q.used + (n + j) ≡ q.used + n + j = omega arith in
                ap (λ (x : ℕ). x % 2 ^ m) (shr-shr q.word n j) ∙ h.field (n + j) m (omega arith)
                ∙ ap (λ (k : ℕ). bits_at d (w.start.0 + (w.position.0 + k)) m) e;
          };
      same = λ d w h f.
          let e : bits_at d (w.start.0 + (w.position.0 + q.used)) n ≡ q.word % 2 ^ n =
          sym (ap (λ (x : ℕ). x % 2 ^ n) (sym (div-one q.word)) ∙ h.field 0 n (omega (arith, f.in_word))
          ∙ ap (λ (k : ℕ). bits_at d (w.start.0 + (w.position.0 + k)) n) (add-zero q.used)) in
          let g : w.position.0 + q.used + n ≡ w.position.0 + (q.used + n) = omega arith in
          bits_there d (advanced w q.used) n (omega (arith, f.in_window))
          ∙ ap (λ (x : ℕ). got x (advanced (advanced w q.used) n)) e
          ∙ ap (λ (p : ℕ). got (q.word % 2 ^ n) (record { start = w.start; position = record { 0 = p }; length = w.length })) g;
    }

skips : {A : Type 0} (a : A) (q : Rest) → Reads (give a) q a (shifted q 0)
skips a q = which_is (gives a q) refl (passed_none q)

pub flag_reads : (q : Rest) (wanted : Bool) → Reads (read_if wanted false bit) q (wanted && eqb (q.word % 2) 1) (shifted q (cond wanted 1 0))
unfolding read_if bit
flag_reads q false = skips false q
flag_reads q true = then _ (takes q 1) (gives _ _)

-- a byte whose low bit says that none follows, and one that another follows
module _ (start : Place) (q : Rest) (n : ℕ) where
  last_byte : q.word % 2 ≡ 0 → Reads (packed_from (suc n) start) q (q.word / 2 % 128) (shifted q 8)
  unfolding packed_from read_if
  last_byte z =
      then _ (takes q 8) (rw (ne_eqb (q.word % 256 % 2) 1 (omega arith)) (which_is (then _ (gives 0 (shifted q 8)) (gives _ _)) (omega arith) refl))

  byte_before : q.word % 2 ≡ 1 → {v : ℕ} {r : Rest} → Reads (packed_from n start) (shifted q 8) v r → Reads (packed_from (suc n) start) q (q.word / 2 % 128 + v * 128) r
  unfolding packed_from read_if
  byte_before z s =
      then _ (takes q 8) (rw (eq-eqb (q.word % 256 % 2) 1 (omega arith)) (which_is (then _ s (gives _ _)) (omega arith) refl))

of_place : {q : Rest} {v : ℕ} {r : Rest} → ((start : Place) → Reads (packed_from 4 start) q v r) → Reads packed q v r
unfolding packed place ◌>>=◌
of_place {q} s =
    record {
      grows = (s (record { at = record { 0 = 0 } })).grows;
      ahead = (s (record { at = record { 0 = 0 } })).ahead;
      same = λ d w. (s (place_of (advanced w q.used))).same d w;
    }

-- a field of so many bits, of which at most two bytes count
abbrev two_bytes : ℕ → ℕ
two_bytes x = x / 2 % 128 + x / 512 % 128 * 128

pub packed_reads : (q : Rest) (wanted more most : Bool) → eqb (q.word % 2) 1 ≡ more → eqb (q.word / 256 % 2) 1 ≡ most
    → let n : ℕ = cond wanted 8 0 + cond (wanted && more) 8 0 + cond ((wanted && more) && most) 47 0 in
    Reads (read_if wanted 0 packed) q (two_bytes (q.word % 2 ^ n)) (shifted q n)
unfolding read_if
packed_reads q false more most e f = which_is (skips 0 q) (omega arith) refl
packed_reads q true false most e f = which_is (of_place (λ start. last_byte start q 3 (omega (arith, eqb-false)))) (omega arith) refl
packed_reads q true true false e f =
    which_is (of_place (λ start. byte_before start q 3 (eqb-true _ _ e) (last_byte start (shifted q 8) 2 (omega (arith, eqb-false)))))
    (ap₂ (λ (x y : ℕ). x + y * 128) (sym (cut q.word 1 7 16 (omega arith)))
    (ap (λ (x : ℕ). x % 128) (shr-shr q.word 8 1) ∙ sym (cut q.word 9 7 16 (omega arith))))
    (passed_twice q 8 8)
packed_reads q true true true e f = beyond packed q _ 63 (omega arith)

-- a number with maximum m is one field: its top bit, where there is one, stands above the others
module _ (m : ℕ) (q : Rest) where
  abbrev n : ℕ
  n = log2 m

  abbrev v : ℕ
  v = q.word % 2 ^ n

  with_top : v + q.word / 2 ^ n % 2 ^ 1 * 2 ^ n ≡ q.word % 2 ^ (n + 1)
  with_top = sym (ap (λ (k : ℕ). q.word % 2 ^ k) (add_comm n 1) ∙ mod-pow-add q.word 1 n ∙ add_comm (q.word / 2 ^ n % 2 ^ 1 * 2 ^ n) v)

  top_reads : (t : Bool)
      → Reads (read_if t 0 (bits 1) >>= (λ top. give (v + top * 2 ^ n))) (shifted q n) (q.word % 2 ^ (n + cond t 1 0)) (shifted q (n + cond t 1 0))
  unfolding read_if
  top_reads true = which_is (then _ (takes (shifted q n) 1) (gives _ _)) with_top (passed_twice q n 1)
  top_reads false = rw add-zero (which_is (then _ (gives 0 (shifted q n)) (gives _ _)) (rw (zero-mul, add-zero) refl) refl)

  pub serialized_reads : (wanted : Bool) → let k : ℕ = cond wanted (serialized_width m q.word) 0 in
      Reads (read_if wanted 0 (serialized m)) q (q.word % 2 ^ k) (shifted q k)
  unfolding read_if serialized serialized_width
  serialized_reads false = which_is (skips 0 q) (sym (mod-one q.word)) refl
  serialized_reads true = then _ (takes q n) (top_reads (ltb (v + 2 ^ n) m))

whole : (d : List ℕ) (w : Window) {x : ℕ} → Peeked d (w.start.0 + w.position.0) x → Ahead d w (record { word = x; used = 0 })
whole d w p =
    record {
      field = λ j n h.
          let e : w.start.0 + w.position.0 + j ≡ w.start.0 + (w.position.0 + (0 + j)) = omega arith in
          p.field j n (omega arith) ∙ ap (λ (k : ℕ). bits_at d k n) e;
    }

-- a header whose bits were all there is the one that the data has
pub header_reads : (d : List ℕ) (w : Window) (p : Parse BunchFields) {x : ℕ} {f : BunchFields} {r : Rest} → Peeked d (w.start.0 + w.position.0) x
    → Reads p (record { word = x; used = 0 }) f r → Within w r.used → got f (advanced w r.used) ≡ p d w
header_reads d w p h s t =
    sym (ap (λ (n : ℕ). p d (record { start = w.start; position = record { 0 = n }; length = w.length })) (sym (add-zero w.position.0))
    ∙ s.same d w (whole d w h) t)
