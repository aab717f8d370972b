-- What holds of the fate that a fragment meets, and not of any fate.
use mathlib.Core.Path.{◌≡◌, refl}
use mathlib.Core.Bool.{Bool, true, false, not, ◌||◌}
use Prim.Native.Nat.{◌+◌, ◌%◌}
use native.Mathlib.Omega.{arith}
use lib.Dec.{eqb}
use borrow.Author.Tests.{eqb-true, eq-eqb}
use Rattle.tables.specs.Tables.{Found, none, found}
use Rattle.bunch_judging.specs.declared.Fate.{Fate}
use Rattle.bunch_judging.specs.Held.{Held, Fragment}
use Rattle.bunch_judging.specs.Fates.{fate}
use Rattle.bunch_judging.specs.Headers.{after_test}
use Rattle.bunch_judging.specs.Messages.{joined_by, joining, held_after, bits_held}
use Rattle.bunch_judging.specs.Effects.{effect_of}
use Rattle.bunch_judging.specs.Ledger.{Unreported, aligned}
use Rattle.bunch_judging.proofs.Displacing.{join_bits}
use Rattle.bunch_judging.proofs.Meeting.{is_unfinished, fate_case}
use Rattle.bunch_judging.proofs.Memory.{effect_on, left_after, message_left}

whole : (b : Bool) (m : Found Held) → (b ≡ false → is_unfinished m ≡ true) → aligned m ≡ true → bits_held (joined_by b m) % 8 ≡ 0
whole true m joinable a = refl
whole false none joinable a = refl
whole false (found n) joinable a = go n.finished (joinable refl) a
  where
    go : (done : Bool) → not done ≡ true → (done || eqb (n.message.bits % 8) 0) ≡ true → n.message.bits % 8 ≡ 0
    go true u a = cc
    go false u a = eqb-true (n.message.bits % 8) 0 a

module _ (full over : Bool) (m : Found Held) (f : Fragment) where
  abbrev met : Fate
  met = fate full over m f.header f.bits

  -- Only an initial that finds no place is turned away.
  pub away : (full ≡ true → m ≡ none) → met ≡ Fate.TurnedAway → m ≡ none
  away only =
      fate_case (λ x. x ≡ Fate.TurnedAway → m ≡ none) full over m f.header f.bits (λ t e. only t) (λ k e. cc) (λ c e. cc) (λ j a e. cc) (λ j e. cc) (λ j l w e. cc)

  pub met_left : (full ≡ true → m ≡ none) → held_after met m f ≡ left_after (effect_on met f) m f
  met_left only = message_left met m f (away only)

  -- What stays without being new was held, and is not finished.
  pub stays_unfinished : (effect_on met f).stays ≡ true → f.header.b_partial_initial ≡ false → is_unfinished m ≡ true
  unfolding effect_of
  stays_unfinished =
      fate_case (λ x. (effect_on x f).stays ≡ true → f.header.b_partial_initial ≡ false → is_unfinished m ≡ true) full over m f.header f.bits
      (λ t s i. cc) (λ k s i. cc) (λ c s i. cc) (λ j a s i. j i) (λ j s i. j i) (λ j l w s i. cc)

  -- The ledger's exception is the one of document 01.
  pub unreported_flagged : Unreported met f → (f.header.b_partial_final ≡ true) × (f.header.has_partial_error ≡ true)
  unreported_flagged u =
      fate_case (λ x. x ≡ Fate.Falls → (f.header.b_partial_final ≡ true) × (f.header.has_partial_error ≡ true)) full over m f.header f.bits
      (λ t e. ((cc), (cc))) (λ k e. ((cc), (cc))) (λ c e. ((cc), (cc))) (λ j a e. ((cc), (cc))) (λ j e. ((cc), (cc))) (λ j l w e. (l, w u.continues))
      u.falls

  -- "unfinished messages a multiple of 8 bits", before and after
  pub stays_aligned : aligned m ≡ true → aligned (held_after met m f) ≡ true
  unfolding held_after
  stays_aligned a =
      fate_case (λ x. aligned (held_after x m f) ≡ true) full over m f.header f.bits
      (λ t. a) (λ k. refl) (λ c. refl) joins (λ j. refl) (λ j l w. refl)
    where
      joins : (f.header.b_partial_initial ≡ false → is_unfinished m ≡ true) → f.bits % 8 ≡ 0 → aligned (held_after Fate.Joins m f) ≡ true
      joins j e =
          eq-eqb (((joining m f).message.bits + f.bits) % 8) 0
          (omega (arith, join_bits (joined_by f.header.b_partial_initial m) (after_test m f.header), whole f.header.b_partial_initial m j a))
