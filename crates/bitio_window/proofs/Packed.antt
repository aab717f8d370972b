-- A packed number byte by byte: what one byte leaves to be read, and the number of what came before it.
use mathlib.Core.Path.{◌≡◌, refl, ap, ap₂, sym, ◌∙◌}
use mathlib.Core.List.{List}
use Prim.Native.Nat.{ℕ, zero, suc, ◌+◌, ◌*◌, ◌-◌, ◌/◌, ◌%◌, ◌^◌, ◌≤◌, ◌<◌}
use native.Mathlib.Nat.{mul-add, mul_assoc, mul_comm, mul-le-mul_right, add-zero, add_assoc}
use native.Mathlib.Decide.{dec_le}
use native.Mathlib.Omega.{arith}
use lib.Pow.{pow-add, pow_mono}
use borrow.Author.Tests.{lt-ltb, le-ltb, eq-eqb, ne_eqb}
use Rattle.bitio_window.specs.declared.Window.{Window}
use Rattle.bitio_window.specs.declared.Place.{Place}
use Rattle.bitio_bits.specs.Bits.{bits_at}
use Rattle.bitio_window.specs.Refusals.{too_few_bits, endless, too_large, place_of}
use Rattle.bitio_window.specs.Parse.{Answer, got, refused, and_then, ◌>>=◌, ◌>>◌, place, refuse_if, refuse, read_if, give, advanced}
use Rattle.bitio_window.specs.Numbers.{packed_from, packed}
use Rattle.bitio_window.proofs.Steps.{advanced_none, bits_short, bits_there, advanced_past}

-- the answer, as the higher chunks of a number whose lower ones are v, and below s
abbrev pub above : ℕ → ℕ → Answer ℕ → Answer ℕ
above v s x = and_then x (λ r w. got (v + s * r) w)

pub above_twice : (v s a : ℕ) (x : Answer ℕ) → above v s (above a 128 x) ≡ above (v + a * s) (s * 128) x
above_twice v s a (got r w) =
    let e : s * (a + 128 * r) ≡ a * s + s * 128 * r = mul-add s a (128 * r) ∙ ap (λ (y : ℕ). y + s * (128 * r)) (mul_comm s a) ∙ ap (λ (y : ℕ). a * s + y) (sym (mul_assoc s 128 r)) in
    let f : v + s * (a + 128 * r) ≡ v + a * s + s * 128 * r = omega arith in
    ap (λ (y : ℕ). got y w) f
above_twice v s a (refused e w) = refl

above_none : (x : Answer ℕ) → above 0 1 x ≡ x
above_none (got r w) = let e : 0 + 1 * r ≡ r = omega arith in ap (λ (y : ℕ). got y w) e
above_none (refused e w) = refl

module _ (d : List ℕ) (start : Place) (w : Window) where
  pub no_byte : (n : ℕ) → w.length - w.position.0 < 8 → packed_from n start d w ≡ refused (too_few_bits (place_of w) w.length 8) w
  unfolding packed_from ◌>>=◌
  no_byte zero h = rw (bits_short d w 8 h)
  no_byte (suc n) h = rw (bits_short d w 8 h)

  module _ {b : ℕ} (e : bits_at d (w.start.0 + w.position.0) 8 ≡ b) (h : 8 ≤ w.length - w.position.0) where
    pub ends : (n : ℕ) → b % 2 ≡ 0 → (n ≡ 0 → b / 2 ≤ 15) → packed_from n start d w ≡ got (b / 2) (advanced w 8)
    unfolding packed_from ◌>>=◌ ◌>>◌ refuse_if read_if give
    ends zero z o = rw (bits_there d w 8 h, e, ne_eqb (b % 2) 1 (omega arith), le-ltb 15 (b / 2) (o refl))
    ends (suc n) z o = rw (bits_there d w 8 h, e, ne_eqb (b % 2) 1 (omega arith)) (ap (λ (v : ℕ). got v (advanced w 8)) (add-zero (b / 2)))

    pub goes_on : (n : ℕ) → (b % 2 ≡ 0 → ⊥) → packed_from (suc n) start d w ≡ above (b / 2) 128 (packed_from n start d (advanced w 8))
    unfolding packed_from ◌>>=◌ read_if give
    goes_on n z = rw (bits_there d w 8 h, e, eq-eqb (b % 2) 1 (omega arith))

    pub fifth_goes_on : (b % 2 ≡ 0 → ⊥) → packed_from 0 start d w ≡ refused (endless start) (advanced w 8)
    unfolding packed_from ◌>>=◌ ◌>>◌ refuse_if refuse
    fifth_goes_on z = rw (bits_there d w 8 h, e, eq-eqb (b % 2) 1 (omega arith))

    pub fifth_large : b % 2 ≡ 0 → 15 < b / 2 → packed_from 0 start d w ≡ refused (too_large start) (advanced w 8)
    unfolding packed_from ◌>>=◌ ◌>>◌ refuse_if refuse give
    fifth_large z o = rw (bits_there d w 8 h, e, ne_eqb (b % 2) 1 (omega arith), lt-ltb 15 (b / 2) o)

-- before the byte k of the number at w: what has been read makes v, each further chunk counts s and more
pub record Turn (d : List ℕ) (w : Window) (k v s : ℕ) : Type 0 where
  pub scale : s ≡ 2 ^ (7 * k)
  pub below : v < s
  pub rest : k ≤ 4 → packed d w ≡ above v s (packed_from (4 - k) (place_of w) d (advanced w (8 * k)))
  pub over : 4 < k → packed d w ≡ refused (endless (place_of w)) (advanced w 40)

module _ (d : List ℕ) (w : Window) where
  pub begin : Turn d w 0 0 1
  unfolding packed place ◌>>=◌
  begin =
      record {
        scale = refl;
        below = omega arith;
        rest = λ h.
            sym (above_none (packed_from 4 (place_of w) d (advanced w 0))
            ∙ ap (packed_from 4 (place_of w) d) (advanced_none w));
        over = λ h. absurd (omega arith);
      }

  module _ {k v s : ℕ} (t : Turn d w k v s) (few : k < 5) where
    pub cut_byte : w.length - w.position.0 - 8 * k < 8
        → packed d w ≡ refused (too_few_bits (place_of (advanced w (8 * k))) w.length 8) (advanced w (8 * k))
    cut_byte h = t.rest (omega arith) ∙ ap (above v s) (no_byte d (place_of w) (advanced w (8 * k)) (4 - k) (omega arith))

    module _ {b : ℕ} (e : bits_at d (w.start.0 + w.position.0 + 8 * k) 8 ≡ b) (small : b < 256)
        (h : 8 ≤ w.length - w.position.0 - 8 * k) where
      here : bits_at d (w.start.0 + (w.position.0 + 8 * k)) 8 ≡ b
      here = ap (λ (j : ℕ). bits_at d j 8) (sym (add_assoc w.start.0 w.position.0 (8 * k))) ∙ e

      room : 8 ≤ w.length - (w.position.0 + 8 * k)
      room = omega arith

      next_scale : s * 128 ≡ 2 ^ (7 * (k + 1))
      next_scale =
          let f : 7 * (k + 1) ≡ 7 * k + 7 = omega arith in
          sym (ap (λ (j : ℕ). 2 ^ j) f ∙ pow-add 2 (7 * k) 7 ∙ ap (λ (x : ℕ). x * 128) (sym t.scale))

      sum_lt : v + b / 2 * s < s * 128
      sum_lt = let c : b / 2 ≤ 127 = omega arith in omega (arith, t.below, mul-le-mul_right s c)

      -- no product or sum of a turn passes 35 bits
      pub sum_fits : v + b / 2 * s < 2 ^ 35
      sum_fits = omega (arith, sum_lt, next_scale, pow_mono {i = 7 * (k + 1)} {j = 35} (omega arith))

      pub scale_fits : s * 128 < 2 ^ 36
      scale_fits = omega (arith, next_scale, pow_mono {i = 7 * (k + 1)} {j = 35} (omega arith))

      -- the fifth chunk, where the sum is counted by 2 ^ 28
      fifth : k ≡ 4 → s ≡ 268435456
      fifth f = t.scale ∙ ap (λ (j : ℕ). 2 ^ (7 * j)) f

      chunks : k ≡ 4 → b / 2 * s ≡ b / 2 * 268435456
      chunks f = ap (λ (x : ℕ). b / 2 * x) (fifth f)

      pub only_fifth : 4294967295 < v + b / 2 * s → k ≡ 4
      only_fifth o = elim (dec_le 4 k) [ yes m ↦ omega arith | no m ↦ absurd (omega (arith, sum_lt, next_scale, pow_mono {i = 7 * (k + 1)} {j = 28} (omega arith))) ]

      pub large : b % 2 ≡ 0 → 4294967295 < v + b / 2 * s → packed d w ≡ refused (too_large (place_of w)) (advanced w 40)
      large z o =
          let f : k ≡ 4 = only_fifth o in
          let n : 4 - k ≡ 0 = omega arith in
          t.rest (omega arith) ∙ ap (λ (m : ℕ). above v s (packed_from m (place_of w) d (advanced w (8 * k)))) n
          ∙ ap (above v s) (fifth_large d (place_of w) (advanced w (8 * k)) here room z (omega (arith, t.below, fifth f, chunks f)))
          ∙ ap (refused (too_large (place_of w))) (advanced_past w (8 * k) 8 40 (omega arith))

      pub value : b % 2 ≡ 0 → v + b / 2 * s ≤ 4294967295 → packed d w ≡ got (v + b / 2 * s) (advanced w (8 * k + 8))
      value z o =
          t.rest (omega arith)
          ∙ ap (above v s)
          (ends d (place_of w) (advanced w (8 * k)) here room (4 - k) z (λ f. let g : k ≡ 4 = omega arith in omega (arith, chunks g)))
          ∙ ap₂ (λ (x : ℕ) (u : Window). got (v + x) u) (mul_comm s (b / 2)) (advanced_past w (8 * k) 8 (8 * k + 8) refl)

      pub next : (b % 2 ≡ 0 → ⊥) → Turn d w (k + 1) (v + b / 2 * s) (s * 128)
      next z =
          record {
            scale = next_scale;
            below = sum_lt;
            rest = λ m.
                let n : 4 - k ≡ suc (4 - (k + 1)) = omega arith in
                t.rest (omega arith) ∙ ap (λ (j : ℕ). above v s (packed_from j (place_of w) d (advanced w (8 * k)))) n
                ∙ ap (above v s) (goes_on d (place_of w) (advanced w (8 * k)) here room (4 - (k + 1)) z)
                ∙ above_twice v s (b / 2) (packed_from (4 - (k + 1)) (place_of w) d (advanced (advanced w (8 * k)) 8))
                ∙ ap (λ (u : Window). above (v + b / 2 * s) (s * 128) (packed_from (4 - (k + 1)) (place_of w) d u))
                (advanced_past w (8 * k) 8 (8 * (k + 1)) (omega arith));
            over = λ m.
                let n : 4 - k ≡ 0 = omega arith in
                t.rest (omega arith) ∙ ap (λ (j : ℕ). above v s (packed_from j (place_of w) d (advanced w (8 * k)))) n
                ∙ ap (above v s) (fifth_goes_on d (place_of w) (advanced w (8 * k)) here room z)
                ∙ ap (refused (endless (place_of w))) (advanced_past w (8 * k) 8 40 (omega arith));
          }
