-- A walk's promise in the paper's terms determines its answer: no two answers of the code say the same.
use Prim.Native.Nat.{ℕ}
use mathlib.Core.Path.{◌≡◌, refl, ap, sym, ◌∙◌}
use mathlib.Core.Bool.{cond}
use mathlib.Core.List.{List}
use lib.Dec.{eqb}
use Rattle.std.specs.Prelude.{Result, Ok, Err}
use Rattle.bitio_window.specs.declared.Window.{Window}
use Rattle.bitio_window.specs.declared.BitError.{BitError}
use Rattle.bitio_window.specs.declared.BitError.TheVariants.{Eof, MalformedIntPacked, IntPackedOverflow, InvalidSerializedIntMax, InvalidBitLength, InvalidWidth, DataTooLong}
use Rattle.bitio_window.specs.Refusals.{Refusal, paper, too_few_bits, endless, too_large, zero_maximum, beyond, too_wide, too_long, list_full, unresolved}
use Rattle.bitio_window.specs.Parse.{Answer, got, refused}
use Rattle.bitio.proofs.Determined.{place_at, unpaper, unpaper_paper}
use Rattle.field_walking.specs.declared.FieldError.{FieldError}
use Rattle.field_walking.specs.declared.Stop.{Stop}
use Rattle.field_walking.specs.declared.Walk.{Walk}
use Rattle.field_walking.specs.Walks as W
use Rattle.field_walking.specs.Answers.{field_paper, stop_answer, of_walk}

-- a refusal by its number and what it returns
unfield : Refusal → FieldError
unfield r = cond (eqb r.number 14) (FieldError.RecordListFull (place_at r)) (cond (eqb r.number 15) FieldError.UnresolvedFunctionCount (FieldError.Bits (unpaper r)))

low : (e : BitError) → unfield (paper e) ≡ FieldError.Bits (unpaper (paper e))
unfolding unfield too_few_bits endless too_large zero_maximum beyond too_wide too_long
low (Eof p l r) = refl
low (MalformedIntPacked p) = refl
low (IntPackedOverflow p) = refl
low (InvalidSerializedIntMax m) = refl
low (InvalidBitLength r a) = refl
low (InvalidWidth w) = refl
low (DataTooLong l) = refl

unfield_paper : (e : FieldError) → unfield (field_paper e) ≡ e
unfolding unfield list_full unresolved
unfield_paper (FieldError.Bits e) = low e ∙ ap FieldError.Bits (unpaper_paper e)
unfield_paper (FieldError.RecordListFull p) = refl
unfield_paper FieldError.UnresolvedFunctionCount = refl

-- an answer and the window after it, read back
abbrev back : Answer W.Stop → Result Stop FieldError × Window
back (got W.ended w) = (Ok Stop.Ended, w)
back (got (W.tail n) w) = (Ok (Stop.ClassNetCacheTail n), w)
back (got (W.abandoned n) w) = (Ok (Stop.Abandoned n), w)
back (refused r w) = (Err (unfield r), w)

stop_back : (s : Result Stop FieldError) (w : Window) → back (stop_answer s w) ≡ (s, w)
stop_back (Ok Stop.Ended) w = refl
stop_back (Ok (Stop.ClassNetCacheTail n)) w = refl
stop_back (Ok (Stop.Abandoned n)) w = refl
stop_back (Err e) w = ap (λ (x : FieldError). (Err x, w)) (unfield_paper e)

module _ (r s : Walk) (u v : Window) (p q : List (List ℕ)) (e : of_walk r u p ≡ of_walk s v q) where
  stops : ◌≡◌ {A = Result Stop FieldError × Window} (r.stop, u) (s.stop, v)
  stops = sym (stop_back r.stop u) ∙ ap (λ (x : W.Walked). back x.answer) e ∙ stop_back s.stop v

  counts : r.count ≡ s.count
  counts = ap (λ (x : W.Walked). x.count) e

  -- where the walk leaves the reader
  pub reader_determined : u ≡ v
  reader_determined = ap (λ (x : Result Stop FieldError × Window). x.1) stops

  -- the answer, and that place with it
  pub walk_determined : (r ≡ s) × (u ≡ v)
  walk_determined = (
    ap (λ (x : Result Stop FieldError × Window). record { stop = x.0; count = r.count }) stops ∙ ap (λ (n : ℕ). record { stop = s.stop; count = n }) counts,
    reader_determined,
  )

  pub places_determined : p ≡ q
  places_determined = ap (λ (x : W.Walked). x.places) e
