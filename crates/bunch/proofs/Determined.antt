-- The calls' promises in the paper's terms determine the answer and the lent memory: no two answers of the code say the same.
use Prim.Native.Nat.{ℕ}
use mathlib.Core.Path.{◌≡◌, refl, ap, sym, ◌∙◌}
use mathlib.Core.List.{List, [], ◌∷◌, map}
use Rattle.std.proofs.Common.{Option, Some, None, Result, Ok, Err}
use Rattle.bitio_window.specs.Refusals.{Refusal}
use Rattle.bunch_judging.specs.declared.Displaced as By-value
use Rattle.bunch_judging.specs.declared.Displacement.{Displacement}
use Rattle.bunch_judging.specs.declared.PartialDiscardCause.{PartialDiscardCause}
use Rattle.bunch_judging.specs.Standings.{of_displacement}
use Rattle.bunch_held.specs.declared.Accumulator.{Accumulator}
use Rattle.bunch_held.specs.declared.BunchError.{BunchError}
use Rattle.bunch_held.specs.Memory.{HeldMemory}
use Rattle.bunch_held.specs.Steps.{MessageOut, BunchAnswer, refused, judged, handed, nothing}
use Rattle.bunch_held.specs.Calls.{BunchReply}
use Rattle.bunch_held.proofs.Refusals.{unbunch, unbunch_paper}
use Rattle.bunch_joining.specs.declared.PreservedPartial.{PreservedPartial}
use Rattle.bunch_joining.specs.Taken.{of_handed, of_taken}
use Rattle.bunch_joining.specs.declared.Judged.{Judged}
use Rattle.bunch_joining.specs.Added.{told_by, of_judged, of_added}
use Rattle.bunch.specs.declared.Unfit.{Unfit}
use Rattle.bunch.specs.Opening.{of_opened_accumulator}
use Rattle.bunch.specs.Draining.{DrainReply, drain_answer, of_emptied}

-- ## Taking and retiring

abbrev Handed : Type 0
Handed = Result (Option PreservedPartial) BunchError

-- an answer, read back; of those that aren't theirs, whatever
abbrev handed_back : BunchAnswer → Handed
handed_back (refused r) = Err (unbunch r)
handed_back (judged r ds) = Ok None
handed_back (handed t) = Ok (Some (record { header = t.header; bit_count = t.bits }))
handed_back nothing = Ok None

handed_comes_back : (h : Handed) → handed_back (of_handed h) ≡ h
handed_comes_back (Ok (Some p)) = refl
handed_comes_back (Ok None) = refl
handed_comes_back (Err e) = rw (unbunch_paper e) refl

module _ (r s : Handed) (a b : Accumulator) (m n : HeldMemory) (o p : List ℕ) (e : of_taken r a m o ≡ of_taken s b n p) where
  pub taken_determined : (r ≡ s) × (a ≡ b) × (m ≡ n) × (o ≡ p)
  taken_determined = (
    sym (handed_comes_back r) ∙ ap (λ (x : BunchReply). handed_back x.answer) e ∙ handed_comes_back s,
    ap (λ (x : BunchReply). x.accumulator) e,
    ap (λ (x : BunchReply). x.memory) e,
    ap (λ (x : BunchReply). x.output) e,
  )

-- ## Adding

abbrev displaced_back : MessageOut × PartialDiscardCause → By-value.Displaced
displaced_back x = record { header = x.0.header; bit_count = x.0.bits; cause = x.1 }

-- of more than two, which no answer has, whatever
abbrev displacement_back : List (MessageOut × PartialDiscardCause) → Displacement
displacement_back [] = Displacement.Nothing
displacement_back (x ∷ []) = Displacement.One (displaced_back x)
displacement_back (x ∷ y ∷ ys) = Displacement.Two (displaced_back x) (displaced_back y)

displacement_comes_back : (d : Displacement) → displacement_back (map told_by (of_displacement d)) ≡ d
displacement_comes_back Displacement.Nothing = refl
displacement_comes_back (Displacement.One d) = refl
displacement_comes_back (Displacement.Two d e) = refl

judged_back : BunchAnswer → Result Judged BunchError → Result Judged BunchError
judged_back (refused r) j = Err (unbunch r)
judged_back (judged r ds) j = Ok (record { result = r; displaced = displacement_back ds })
judged_back (handed t) j = j
judged_back nothing j = j

judged_comes_back : (j k : Result Judged BunchError) → judged_back (of_judged j) k ≡ j
unfolding judged_back
judged_comes_back (Ok j) k = rw (displacement_comes_back j.displaced) refl
judged_comes_back (Err e) k = rw (unbunch_paper e) refl

module _ (r s : Result Judged BunchError) (a b : Accumulator) (m n : HeldMemory) (o p : List ℕ) (e : of_added r a m o ≡ of_added s b n p) where
  pub added_determined : (r ≡ s) × (a ≡ b) × (m ≡ n) × (o ≡ p)
  added_determined = (
    sym (judged_comes_back r r) ∙ ap (λ (x : BunchReply). judged_back x.answer r) e ∙ judged_comes_back s r,
    ap (λ (x : BunchReply). x.accumulator) e,
    ap (λ (x : BunchReply). x.memory) e,
    ap (λ (x : BunchReply). x.output) e,
  )

-- ## Draining

abbrev drain_back : Result ℕ Refusal → Result ℕ BunchError
drain_back (Ok n) = Ok n
drain_back (Err r) = Err (unbunch r)

drain_comes_back : (d : Result ℕ BunchError) → drain_back (drain_answer d) ≡ d
drain_comes_back (Ok n) = refl
drain_comes_back (Err e) = rw (unbunch_paper e) refl

module _ (r s : Result ℕ BunchError) (a b : Accumulator) (o p : List ℕ) (l k : List (List ℕ)) (e : of_emptied r a o l ≡ of_emptied s b p k) where
  pub drain_determined : (r ≡ s) × (a ≡ b)
  drain_determined = (sym (drain_comes_back r) ∙ ap (λ (x : DrainReply). drain_back x.answer) e ∙ drain_comes_back s, ap (λ (x : DrainReply). x.accumulator) e)

  pub output_determined : o ≡ p
  output_determined = ap (λ (x : DrainReply). x.output) e

  pub list_determined : l ≡ k
  list_determined = ap (λ (x : DrainReply). x.list) e

-- ## Opening

abbrev opened_back : Result Accumulator Refusal → Result Accumulator Unfit
opened_back (Ok a) = Ok a
opened_back (Err e) = Err (record {})

opened_comes_back : (o : Result Accumulator Unfit) → opened_back (of_opened_accumulator o) ≡ o
opened_comes_back (Ok a) = refl
opened_comes_back (Err e) = refl

pub opened_determined : (o q : Result Accumulator Unfit) → of_opened_accumulator o ≡ of_opened_accumulator q → o ≡ q
opened_determined o q e = sym (opened_comes_back o) ∙ ap opened_back e ∙ opened_comes_back q
