-- The tests before a read: which refusal they give, and what is known where they give none.
use mathlib.Core.Path.{◌≡◌, ap, sym, ◌∙◌}
use mathlib.Core.List.{List}
use Prim.Native.Nat.{ℕ, ◌*◌, ◌-◌, ◌≤◌, ◌<◌}
use lib.Dec.{ltb}
use lib.ListN.{length}
use borrow.Author.Tests.{lt-ltb, le-ltb, ltb-false}
use Rattle.bitio_window.specs.declared.Window.{Window}
use Rattle.bitio_window.specs.declared.BitError.{BitError}
use Rattle.std.specs.Prelude.{Result, Ok, Err, IsErrAnd}
use Rattle.bitio_window.specs.Refusals.{paper, too_long, beyond}
use Rattle.bitio_window.specs.Parse.{got, refused, refusal, Parse, ◌>>◌, give, refuse, refuse_if}
use Rattle.bitio_window.specs.Reads.{largest_data, data_fits, window_fits, cursor_fits, sound}
use Rattle.bitio_window.specs.Answers.{answer, outcome}
use Rattle.bitio_window.specs.Sound.{Sound}
use Rattle.bitio_window.proofs.Handed.{handed_on}
use Rattle.bitio_window.proofs.Rows.{ahead, regroup, next_got, next_refused}

module _ (d : List ℕ) (w : Window) where
  pub too_long_is : largest_data < length d → sound d w ≡ refused (too_long (length d)) w
  unfolding sound data_fits ◌>>◌ refuse_if refuse
  too_long_is h = simp (lt-ltb _ _ h)

  module _ (few : length d ≤ largest_data) where
    pub past_data : 8 * length d - w.start.0 < w.length → sound d w ≡ refused (beyond w.length (8 * length d - w.start.0)) w
    unfolding sound data_fits window_fits ◌>>◌ refuse_if refuse give
    past_data h = simp (le-ltb _ _ few, lt-ltb _ _ h)

    module _ (within : w.length ≤ 8 * length d - w.start.0) where
      pub past_window : w.length < w.position.0 → sound d w ≡ refused (beyond w.position.0 w.length) w
      unfolding sound data_fits window_fits cursor_fits ◌>>◌ refuse_if refuse give
      past_window h = simp (le-ltb _ _ few, le-ltb _ _ within, lt-ltb _ _ h)

  pub fine : Sound d w → sound d w ≡ got tt w
  unfolding sound data_fits window_fits cursor_fits ◌>>◌ refuse_if give
  fine s = simp (le-ltb _ _ s.data_within, le-ltb _ _ s.window_within, le-ltb _ _ s.cursor_within)

  pub passes : {A : Type 0} (q : Parse A) {a : A} {u : Window} → (sound >> q) d w ≡ got a u → Sound d w × (q d w ≡ got a u)
  unfolding sound data_fits window_fits cursor_fits ◌>>◌
  passes q h =
      let first = ahead d w (ltb largest_data (length d)) (too_long (length d)) ((window_fits >> cursor_fits) >> q) (sym (regroup d w data_fits (window_fits >> cursor_fits) q) ∙ h) in
      let second = ahead d w (ltb (8 * length d - w.start.0) w.length) (beyond w.length (8 * length d - w.start.0)) (cursor_fits >> q) (sym (regroup d w window_fits cursor_fits q) ∙ first.1) in
      let third = ahead d w (ltb w.length w.position.0) (beyond w.position.0 w.length) q second.1 in
      (record { data_within = ltb-false _ _ first.0; window_within = ltb-false _ _ second.0; cursor_within = ltb-false _ _ third.0 }, third.1)

  passed : sound d w ≡ got tt w → Sound d w
  unfolding give
  passed h = (passes {A = Unit {0}} (give tt) {a = tt} {u = w} (next_got d w sound (give tt) h)).0

-- what a call that tests first has learnt from its test
module _ {A : Type 0} (d : List ℕ) (w : Window) (q : Parse A) where
  pub stopped : (r : Result A BitError) (e : BitError) → IsErrAnd r (λ x. x ≡ e) → refused (paper e) w ≡ sound d w → answer r w ≡ (sound >> q) d w
  stopped r e h told = handed_on r e w h ∙ sym (next_refused d w sound q (sym told))

  pub went_on : got tt w ≡ sound d w → (sound >> q) d w ≡ q d w
  went_on told = next_got d w sound q (sym told)

pub tested : (d : List ℕ) (w : Window) → got tt w ≡ sound d w → Sound d w
tested d w told = passed d w (sym told)

-- what a `?` hands on of a call that moves no reader
pub handed_out : {A : Type 0} (r : Result A BitError) (e : BitError) → IsErrAnd r (λ x. x ≡ e) → outcome r ≡ refusal (paper e)
handed_out (Ok v) e h = absurd h
handed_out (Err x) e h = ap (λ (y : BitError). refusal (paper y)) h
