-- What a drain's promise says of the words, and that a drain which lists found the memory sound.
use Prim.Native.Nat.{ℕ}
use mathlib.Core.Path.{◌≡◌, refl, sym, ap, ◌∙◌}
use mathlib.Core.Bool.{Bool, true, false}
use mathlib.Core.List.{List, [], ◌∷◌}
use lib.ListN.{get_or}
use Rattle.bitio_window.specs.Refusals.{Refusal}
use Rattle.std.proofs.Common.{Result, Ok, Err}
use Rattle.bunch_held.specs.declared.Accumulator.{Accumulator}
use Rattle.bunch_held.specs.Memory.{HeldMemory}
use Rattle.bunch_held.specs.Sound.{memory_sound}
use Rattle.bunch_held.specs.declared.BunchError.{BunchError}
use Rattle.bunch_held.specs.Refusals.{error_paper}
use Rattle.bunch.specs.Draining.{DrainReply, drain_answer, of_emptied, drained}
use Rattle.bunch.proofs.DrainCalls.{ten}
use Rattle.exports_bunch.specs.Drained.{drained_words}

listed_or_refused : {n : ℕ} {r : Refusal} → ◌≡◌ {A = Result ℕ Refusal} (Ok n) (Err r) → false ≡ true
listed_or_refused e = cc

module _ (x : Result ℕ BunchError) (b : Accumulator) (o : List ℕ) (l : List (List ℕ)) where
  pub was_sound : (a : Accumulator) (m : HeldMemory) (p : List ℕ) (k : List (List ℕ)) {n : ℕ} → of_emptied x b o l ≡ drained a m p k → x ≡ Ok n → memory_sound a m ≡ true
  was_sound a m p k e h = go (memory_sound a m) refl
    where
      go : (b : Bool) → memory_sound a m ≡ b → b ≡ true
      go true f = refl
      go false f = listed_or_refused (sym (ap drain_answer h) ∙ (ap (λ (z : DrainReply). z.answer) e ∙ ap (λ (z : DrainReply). z.answer) (sym (ten a m p k f))))

  lists_words : {n : ℕ} (bytes : ℕ) → x ≡ Ok n → 0 ∷ 0 ∷ b.active ∷ b.total_buffered_bits ∷ n ∷ bytes ∷ [] ≡ drained_words (of_emptied x b o l) bytes
  unfolding drained_words
  lists_words bytes h = rw h refl

  refuses_words : {r : BunchError} (bytes : ℕ) → x ≡ Err r → (error_paper r).number ∷ get_or (error_paper r).returns 0 0 ∷ b.active ∷ b.total_buffered_bits ∷ 0 ∷ 0 ∷ [] ≡ drained_words (of_emptied x b o l) bytes
  unfolding drained_words
  refuses_words bytes h = rw h refl

  module _ {y : DrainReply} (e : of_emptied x b o l ≡ y) where
    leaves : (o ≡ y.output) × (l ≡ y.list)
    leaves = (ap (λ (z : DrainReply). z.output) e, ap (λ (z : DrainReply). z.list) e)

    pub told_lists : {n : ℕ} (bytes : ℕ) → x ≡ Ok n → (0 ∷ 0 ∷ b.active ∷ b.total_buffered_bits ∷ n ∷ bytes ∷ [] ≡ drained_words y bytes) × ((o ≡ y.output) × (l ≡ y.list))
    told_lists bytes h = (lists_words bytes h ∙ ap (λ (z : DrainReply). drained_words z bytes) e, leaves)

    pub told_refuses : {r : BunchError} (bytes : ℕ) → x ≡ Err r → ((error_paper r).number ∷ get_or (error_paper r).returns 0 0 ∷ b.active ∷ b.total_buffered_bits ∷ 0 ∷ 0 ∷ [] ≡ drained_words y bytes) × ((o ≡ y.output) × (l ≡ y.list))
    told_refuses bytes h = (refuses_words bytes h ∙ ap (λ (z : DrainReply). drained_words z bytes) e, leaves)
