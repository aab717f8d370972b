-- A promise in the paper's terms determines the answer: no two answers of the code say the same.
use mathlib.Core.Path.{◌≡◌, refl, ap, sym, ◌∙◌}
use mathlib.Core.Bool.{cond}
use lib.Dec.{eqb}
use lib.ListN.{get_or}
use Rattle.std.specs.Prelude.{ℕ, Float, Result as Answered, Ok, Err}
use Rattle.bitio_window.specs.declared.Place.{Place}
use Rattle.bitio_window.specs.declared.Window.{Window}
use Rattle.bitio_window.specs.declared.BitError.{BitError}
use Rattle.bitio_window.specs.declared.BitError.TheVariants.{Eof, MalformedIntPacked, IntPackedOverflow, InvalidSerializedIntMax, InvalidBitLength, InvalidWidth, DataTooLong}
use Rattle.bitio_window.specs.declared.Decoded.{Decoded as Pattern}
use Rattle.bitio_window.specs.declared.Decoded.TheVariants.{Number, NoNumber}
use Rattle.bitio_bits.specs.Floats.{Decoded, number, no_number}
use Rattle.bitio_window.specs.Refusals.{Refusal, paper, too_few_bits, endless, too_large, zero_maximum, beyond, too_wide, too_long}
use Rattle.bitio_window.specs.Parse.{Answer, got, refused, Result, value, refusal}
use Rattle.bitio_window.specs.Answers.{answer, answer_of, outcome, decoded_of}

-- what can be read back is determined
pub determined : {A B : Type 0} (f : A → B) (back : B → A) → ((a : A) → back (f a) ≡ a) → (a b : A) → f a ≡ f b → a ≡ b
determined f back h a b e = sym (h a) ∙ ap back e ∙ h b

-- a refusal by its number and what it returns
abbrev pub place_at : Refusal → Place
place_at r = record { at = record { 0 = get_or r.returns 0 0 } }

pub unpaper : Refusal → BitError
unpaper r =
    cond (eqb r.number 1) (Eof (place_at r) (get_or r.returns 1 0) (get_or r.returns 2 0))
    (cond (eqb r.number 2) (MalformedIntPacked (place_at r))
    (cond (eqb r.number 3) (IntPackedOverflow (place_at r))
    (cond (eqb r.number 4) (InvalidSerializedIntMax (get_or r.returns 0 0))
    (cond (eqb r.number 5) (InvalidBitLength (get_or r.returns 0 0) (get_or r.returns 1 0))
    (cond (eqb r.number 6) (InvalidWidth (get_or r.returns 0 0)) (DataTooLong (get_or r.returns 0 0)))))))

pub unpaper_paper : (e : BitError) → unpaper (paper e) ≡ e
unfolding unpaper too_few_bits endless too_large zero_maximum beyond too_wide too_long
unpaper_paper (Eof p l r) = refl
unpaper_paper (MalformedIntPacked p) = refl
unpaper_paper (IntPackedOverflow p) = refl
unpaper_paper (InvalidSerializedIntMax m) = refl
unpaper_paper (InvalidBitLength r a) = refl
unpaper_paper (InvalidWidth w) = refl
unpaper_paper (DataTooLong l) = refl

pub refusal_determined : (e f : BitError) → paper e ≡ paper f → e ≡ f
refusal_determined = determined paper unpaper unpaper_paper

-- an answer and the window after it, read back, where what a value stands for tells the value
module _ {A B : Type 0} (f : A → B) (f_back : B → A) (told : (a : A) → f_back (f a) ≡ a) where
  abbrev pub back : Answer B → Answered A BitError × Window
  back (got b w) = (Ok (f_back b), w)
  back (refused r w) = (Err (unpaper r), w)

  pub back_of : (r : Answered A BitError) (w : Window) → back (answer_of f r w) ≡ (r, w)
  back_of (Ok a) w = ap (λ (x : A). (Ok x, w)) (told a)
  back_of (Err e) w = ap (λ (x : BitError). (Err x, w)) (unpaper_paper e)

  pub answer_of_determined : (r s : Answered A BitError) (u v : Window) → answer_of f r u ≡ answer_of f s v → ◌≡◌ {A = Answered A BitError × Window} (r, u) (s, v)
  answer_of_determined r s u v e = sym (back_of r u) ∙ ap back e ∙ back_of s v

module _ {A : Type 0} where
  as_it_is : (r : Answered A BitError) (w : Window) → answer r w ≡ answer_of (λ (a : A). a) r w
  as_it_is (Ok a) w = refl
  as_it_is (Err e) w = refl

  -- of each call whose answer is the value itself
  pub answer_determined : (r s : Answered A BitError) (u v : Window) → answer r u ≡ answer s v → ◌≡◌ {A = Answered A BitError × Window} (r, u) (s, v)
  answer_determined r s u v e = answer_of_determined (λ (a : A). a) (λ (a : A). a) (λ (a : A). refl) r s u v (sym (as_it_is r u) ∙ e ∙ as_it_is s v)

  -- of each call that moves no reader
  abbrev again : Result A → Answered A BitError
  again (value a) = Ok a
  again (refusal r) = Err (unpaper r)

  again_outcome : (r : Answered A BitError) → again (outcome r) ≡ r
  again_outcome (Ok a) = refl
  again_outcome (Err e) = ap (λ (x : BitError). Err x) (unpaper_paper e)

  pub outcome_determined : (r s : Answered A BitError) → outcome r ≡ outcome s → r ≡ s
  outcome_determined = determined outcome again again_outcome

-- of each read of a float
abbrev pattern : Decoded → Pattern Float ℕ
pattern (number x) = Number x
pattern (no_number b) = NoNumber b

pattern_back : (p : Pattern Float ℕ) → pattern (decoded_of p) ≡ p
pattern_back (Number x) = refl
pattern_back (NoNumber b) = refl

pub float_determined : (r s : Answered (Pattern Float ℕ) BitError) (u v : Window) → answer_of decoded_of r u ≡ answer_of decoded_of s v → ◌≡◌ {A = Answered (Pattern Float ℕ) BitError × Window} (r, u) (s, v)
float_determined = answer_of_determined decoded_of pattern pattern_back
