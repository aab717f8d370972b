-- The ledger, and what else holds of every answer, whatever fate it goes by.
use mathlib.Core.Path.{◌≡◌, refl}
use mathlib.Core.Bool.{Bool, true, false, not, ◌||◌, cond}
use mathlib.Core.List.{[], ◌∷◌}
use Prim.Native.Nat.{◌+◌, ◌≤◌}
use native.Mathlib.Omega.{arith}
use lib.Dec.{eqb}
use lib.ListN.{length, length-append}
use mir.Val.{bool_byte}
use borrow.Author.Tests.{eqb-true}
use Rattle.types.specs.declared.PartialSequenceKind.{PartialSequenceKind}
use Rattle.tables.specs.Tables.{Found, none, found}
use Rattle.bunch_judging.specs.declared.PartialDiscardCause.{PartialDiscardCause}
use Rattle.bunch_judging.specs.declared.Fate.{Fate}
use Rattle.bunch_judging.specs.Held.{Held, Fragment, Displaced}
use Rattle.bunch_judging.specs.Fates.{overlaps}
use Rattle.bunch_judging.specs.Headers.{after_test}
use Rattle.bunch_judging.specs.Messages.{replaced_by, joined_by, joining, held_after, displaced_by, fallen, displaced, bits_held}
use Rattle.bunch_judging.specs.Results.{result_of}
use Rattle.bunch_judging.specs.Standings.{displaced_bits}
use Rattle.bunch_judging.specs.Ledger.{Unreported}
use Rattle.bunch_judging.proofs.Displacing.{join_bits, displaced_bits_are}

abbrev overlapping : PartialDiscardCause
overlapping = PartialDiscardCause.Sequence PartialSequenceKind.OverlappingInitial

one_at_most : (b : Bool) → bool_byte b ≤ 1
one_at_most true = omega arith
one_at_most false = omega arith

at_most_one : (c : PartialDiscardCause) (m : Found Held) → length (displaced_by c m) ≤ 1
at_most_one c none = omega arith
at_most_one c (found m) = omega arith

last : (zero : Bool) (x : Displaced) → length (cond zero [] (x ∷ [])) ≤ 1
last true x = omega arith
last false x = omega arith

module _ (m : Found Held) (f : Fragment) where
  abbrev initial : Bool
  initial = f.header.b_partial_initial

  stays : bits_held m + f.bits ≡ ((joining m f).message.bits + f.bits) + cond initial (bits_held m) 0
  stays = rw (join_bits (joined_by initial m) (after_test m f.header)) (go initial)
    where
      go : (b : Bool) → bits_held m + f.bits ≡ (bits_held (joined_by b m) + f.bits) + cond b (bits_held m) 0
      go true = omega arith
      go false = omega arith

  falls : (b zero : Bool) → eqb f.bits 0 ≡ zero → (b ≡ false → f.bits ≡ 0 → ⊥) → bits_held m + f.bits ≡ 0 + cond (b || not zero) (bits_held m + f.bits) 0
  falls true zero e reported = omega arith
  falls false true e reported = absurd (reported refl (eqb-true f.bits 0 e))
  falls false false e reported = omega arith

  -- "bits held before + payload = held after + discarded, with one exception"
  pub ledger : (x : Fate) → (Unreported x f → ⊥) → bits_held m + f.bits ≡ bits_held (held_after x m f) + (result_of x m f).discarded_bits
  unfolding held_after result_of displaced_bits
  ledger Fate.TurnedAway reported = refl
  ledger (Fate.Breaks k) reported = rw displaced_bits_are (omega arith)
  ledger (Fate.Fails c) reported = rw displaced_bits_are (omega arith)
  ledger Fate.Joins reported = rw displaced_bits_are stays
  ledger Fate.Finishes reported = rw displaced_bits_are stays
  ledger Fate.Falls reported =
      rw displaced_bits_are
      (falls initial (eqb f.bits 0) refl (λ first none. reported (record { falls = refl; continues = first; empty = none })))

  -- and of the exception: nothing is held after it, and nothing discarded
  pub unreported : (x : Fate) → Unreported x f → (bits_held (held_after x m f) ≡ 0) × ((result_of x m f).discarded_bits ≡ 0)
  unfolding held_after result_of displaced_bits
  unreported x u = rw (u.falls, displaced_bits_are, u.continues, u.empty) (refl, refl)

  -- "At most two messages are displaced in one call"
  pub at_most_two : (x : Fate) → length (displaced x m f) ≤ 2
  unfolding displaced
  at_most_two Fate.TurnedAway = omega arith
  at_most_two (Fate.Breaks k) = omega (arith, at_most_one (PartialDiscardCause.Sequence k) m)
  at_most_two (Fate.Fails c) = rw length-append (omega (arith, at_most_one overlapping (replaced_by initial m), at_most_one c (joined_by initial m)))
  at_most_two Fate.Joins = omega (arith, at_most_one overlapping (replaced_by initial m))
  at_most_two Fate.Finishes = omega (arith, at_most_one overlapping (replaced_by initial m))
  at_most_two Fate.Falls = rw length-append (omega (arith, at_most_one overlapping (replaced_by initial m), last (eqb f.bits 0) (fallen m f)))

  -- "Errors may rise by 2."
  pub errors_at_most_two : (x : Fate) → (result_of x m f).errors ≤ 2
  unfolding result_of
  errors_at_most_two Fate.TurnedAway = omega arith
  errors_at_most_two (Fate.Breaks k) = omega arith
  errors_at_most_two (Fate.Fails c) = omega (arith, one_at_most (overlaps m initial))
  errors_at_most_two Fate.Joins = omega (arith, one_at_most (overlaps m initial))
  errors_at_most_two Fate.Finishes = omega (arith, one_at_most (overlaps m initial))
  errors_at_most_two Fate.Falls = omega (arith, one_at_most (overlaps m initial))
