-- What a walk leaves: a list of the same length, whose first places, as many as it counts, hold records of 32 bits.
use mathlib.Core.Path.{◌≡◌, refl, ap, ◌∙◌}
use mathlib.Core.Bool.{Bool, true, false}
use mathlib.Core.List.{List, [], ◌∷◌, ◌++◌}
use Prim.Native.Nat.{ℕ, zero, suc, ◌^◌, ◌≤◌, ◌<◌, min}
use native.Mathlib.Decide.{dec_le}
use native.Mathlib.Omega.{arith}
use lib.Dec.{eqb}
use lib.ListN.{length, get_or, take, drop, length-append, length-take, drop_of_length-le, get_or-append}
use lib.Seq.{take_all, take-length, drop-length}
use Rattle.bitio_window.specs.declared.Window.{Window}
use Rattle.bitio_window.specs.Refusals.{unresolved}
use Rattle.bitio_window.specs.Parse.{Answer, got, refused, Parse, ◌>>◌, refuse_if}
use Rattle.bitio_window.specs.Reads.{sound, read_bit}
use Rattle.field_walking.specs.declared.Walk.{Walk}
use Rattle.field_walking.specs.Records.{Looked, bits_left, ends, abandons, finds, rep_layout, class_net_cache}
use Rattle.field_walking.specs.Walks.{Walked, record_numbers, walked_on, walk, walked}
use Rattle.field.specs.Walks.{from, settle, parse_rep_layout, parse_class_net_cache}
use Rattle.field_walking.specs.Answers.{of_walk}
use Rattle.field_records.specs.declared.Stream.{Stream}
use Rattle.field_records.specs.Walks.{parse, walked_into}
use Rattle.field_records.specs.Fits.{RecordFits, Ready}
use Rattle.field_records.proofs.Gives.{Gives, Right, right_rep_layout, right_class_net_cache}

pub record Kept (ps : List (List ℕ)) (x : Walked) : Type 0 where
  pub size : length x.places ≡ length ps
  pub few : x.count ≤ length ps
  pub fits : (i : ℕ) → i < x.count → RecordFits (get_or x.places i [])

none : {ps : List (List ℕ)} {x : Walked} → x.places ≡ ps → x.count ≡ 0 → Kept ps x
none e z = record { size = ap length e; few = omega (arith, z); fits = λ i h. absurd (omega (arith, h, z)) }

module _ {look : Parse Looked} (right : Gives Right look) (d : List ℕ) where
  abbrev Keeps : ℕ → Type 0
  Keeps n = (ps : List (List ℕ)) (w : Window) → Kept ps (walk look n d ps w)

  one : (n : ℕ) → Keeps n → (ps : List (List ℕ)) (w : Window) (x : Answer Looked) → look d w ≡ x → Kept ps (walked_on ps w x (walk look n d))
  one n rest ps w (refused e u) q = none refl refl
  one n rest ps w (got ends u) q = none refl refl
  one n rest ps w (got abandons u) q = none refl refl
  one n rest [] w (got (finds r) u) q = none refl refl
  one n rest (p ∷ ps) w (got (finds r) u) q = record { size = ap suc k.size; few = omega (arith, k.few); fits = fit }
    where
      k : Kept ps (walk look n d ps u)
      k = rest ps u

      found : (r.handle < 2 ^ 32) × (r.bit_count < 2 ^ 32)
      found = right.gives d w q

      fit : (i : ℕ) → i < suc (walk look n d ps u).count → RecordFits (get_or (record_numbers r ∷ (walk look n d ps u).places) i [])
      fit zero h = record { handle = found.0; bits = found.1 }
      fit (suc i) h = k.fits i (omega (arith, h))

  kept_walk : (n : ℕ) → Keeps n
  unfolding walk
  kept_walk zero ps w = none refl refl
  kept_walk (suc n) ps w = one n (kept_walk n) ps w (look d w) refl

module _ (d : List ℕ) (ps : List (List ℕ)) where
  kept_from : {A : Type 0} (x : Answer A) (on : Window → Walked) → ((u : Window) → Kept ps (on u)) → Kept ps (from ps x on)
  kept_from (refused e u) on f = none refl refl
  kept_from (got a u) on f = f u

  kept_settle : (retain : Bool) {x : Walked} → Kept ps x → Kept ps (settle retain x)
  kept_settle retain k = record { size = k.size; few = k.few; fits = k.fits }

  layout : (retain : Bool) (w : Window) → Kept ps (parse_rep_layout retain d ps w)
  unfolding parse_rep_layout
  layout retain w = kept_from (read_bit d w) (λ u. settle retain (walked rep_layout d ps u)) (λ u. kept_settle retain (kept_walk right_rep_layout d (suc (bits_left u)) ps u))

  pub kept_parse : (s : Stream) (w : Window) → Kept ps (parse s d ps w)
  unfolding parse_class_net_cache
  kept_parse Stream.RepLayout w = layout false w
  kept_parse Stream.RepLayoutContentBlock w = layout true w
  kept_parse (Stream.ClassNetCache count) w =
      kept_from ((sound >> refuse_if (eqb count 0) unresolved) d w) (walked (class_net_cache count) d ps) (λ u. kept_walk (right_class_net_cache count) d (suc (bits_left u)) ps u)

-- the walk into a part, as the walk into the list
module _ (n : ℕ) (ps : List (List ℕ)) where
  part : take (min n (length ps)) ps ≡ take n ps
  part = go (dec_le n (length ps))
    where
      go : Dec (n ≤ length ps) → take (min n (length ps)) ps ≡ take n ps
      go (yes h) = let e : min n (length ps) ≡ n = omega arith in rw e
      go (no h) = let e : min n (length ps) ≡ length ps = omega arith in rw (e, take-length, take_all n ps (omega arith))

  rest : drop (min n (length ps)) ps ≡ drop n ps
  rest = go (dec_le n (length ps))
    where
      go : Dec (n ≤ length ps) → drop (min n (length ps)) ps ≡ drop n ps
      go (yes h) = let e : min n (length ps) ≡ n = omega arith in rw e
      go (no h) = let e : min n (length ps) ≡ length ps = omega arith in rw (e, drop-length, drop_of_length-le ps {i = n} (omega arith))

  module _ (s : Stream) (d : List ℕ) (w : Window) (r : Walk) (u : Window) (qs : List (List ℕ)) {m : ℕ} (e : m ≡ min n (length ps)) (h : of_walk r u qs ≡ parse s d (take m ps) w) where
    pub walks_into : of_walk r u (qs ++ drop m ps) ≡ walked_into n s d ps w
    unfolding walked_into
    walks_into =
        ap (λ (x : Walked). record { places = x.places ++ drop m ps; count = x.count; answer = x.answer }) h
        ∙ rw (e, part, rest)

    pub leaves_ready : Ready r.count n (qs ++ drop m ps)
    leaves_ready =
        record {
          placed = omega (arith, e, k.few, length-take m ps);
          written = rw length-append (omega (arith, k.few, k.size));
          fits = λ i f. rw (get_or-append qs (drop m ps) [] i (omega (arith, f, k.few, k.size))) (k.fits i f);
        }
      where
        k : Kept (take m ps) (of_walk r u qs)
        k = rw h (kept_parse d (take m ps) s w)
