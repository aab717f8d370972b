-- What comes before the records: where it refuses, and where the walk begins.
use mathlib.Core.Path.{◌≡◌}
use mathlib.Core.Bool.{Bool}
use mathlib.Core.List.{List}
use Prim.Native.Nat.{ℕ}
use borrow.Author.Tests.{eq-eqb, ne_eqb}
use lib.Dec.{eqb}
use Rattle.bitio_window.specs.declared.Window.{Window}
use Rattle.bitio_window.specs.Refusals.{Refusal, unresolved}
use Rattle.bitio_window.specs.Parse.{got, refused, ◌>>◌, give, refuse, refuse_if}
use Rattle.bitio_window.specs.Reads.{sound, bit, read_bit}
use Rattle.bitio_window.specs.Sound.{Sound}
use Rattle.bitio.proofs.Tests.{passes}
use Rattle.bitio_window.proofs.Keeps.{sound_stays, Keeps, keeps_then, keeps_give, keeps_bits}
use Rattle.field_walking.specs.Records.{rep_layout, class_net_cache}
use Rattle.field_walking.specs.Walks.{stopped, walked}
use Rattle.field.specs.Walks.{settle, parse_rep_layout, parse_class_net_cache}

keeps_bit : Keeps bit
unfolding bit
keeps_bit = keeps_then (keeps_bits 1) (λ v. keeps_give _)

module _ (d : List ℕ) (w : Window) {u : Window} where
  pub past_bit : {b : Bool} → read_bit d w ≡ got b u → Sound d u
  unfolding read_bit
  past_bit h =
      let p = passes d w bit h in
      let s = keeps_bit.keeps d w in
      sound_stays p.0 (rw p.1 at s)

  module _ (retain : Bool) (ps : List (List ℕ)) where
    pub layout_refused : {e : Refusal} → read_bit d w ≡ refused e u → stopped ps (refused e u) ≡ parse_rep_layout retain d ps w
    unfolding parse_rep_layout
    layout_refused h = rw h

    pub layout_opened : {b : Bool} → read_bit d w ≡ got b u → settle retain (walked rep_layout d ps u) ≡ parse_rep_layout retain d ps w
    unfolding parse_rep_layout
    layout_opened h = rw h

  module _ (count : ℕ) (ps : List (List ℕ)) where
    pub cache_refused : {e : Refusal} → (sound >> refuse_if (eqb count 0) unresolved) d w ≡ refused e u → stopped ps (refused e u) ≡ parse_class_net_cache count d ps w
    unfolding parse_class_net_cache
    cache_refused h = rw h

    pub cache_opened : (sound >> refuse_if (eqb count 0) unresolved) d w ≡ got tt u → walked (class_net_cache count) d ps u ≡ parse_class_net_cache count d ps w
    unfolding parse_class_net_cache
    cache_opened h = rw h

module _ (d : List ℕ) (w : Window) (count : ℕ) where
  pub no_count : count ≡ 0 → refuse_if (eqb count 0) unresolved d w ≡ refused unresolved w
  unfolding refuse_if refuse
  no_count h = rw (eq-eqb count 0 h)

  pub some_count : (count ≡ 0 → ⊥) → refuse_if (eqb count 0) unresolved d w ≡ got tt w
  unfolding refuse_if give
  some_count h = rw (ne_eqb count 0 h)
