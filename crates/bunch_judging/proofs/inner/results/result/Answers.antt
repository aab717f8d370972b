-- Each way through is one clause of the definition; the discarded bits are those of what is displaced.
use mathlib.Core.Path.{◌≡◌}
use mathlib.Core.Bool.{Bool, true, false}
use mathlib.Core.List.{List}
use mathlib.Core.Logic.{inl, inr}
use Prim.Native.Nat.{ℕ, ◌+◌, ◌≤◌}
use native.Mathlib.Omega.{arith}
use lib.Dec.{eqb}
use mir.Val.{bool_byte}
use Rattle.tables.specs.Tables.{Found}
use Rattle.bunch_judging.specs.declared.Fate.{Fate}
use Rattle.bunch_judging.specs.Held.{Held, Fragment}
use Rattle.bunch_judging.specs.Headers.{after_test}
use Rattle.bunch_judging.specs.Messages.{displaced, bits_of_all}
use Rattle.bunch_judging.specs.Results.{overlap_errors, accepted, result_of}
use Rattle.bunch_judging.specs.Standings.{held_of}
use Rattle.bunch_judging.proofs.Displacing.{held_bits, at_most, displaced_bits_are}
use Rattle.bunch_judging.proofs.inner.results.result.Goals.{After-after_test-h}
use Rattle.bunch_judging.proofs.inner.results.result.Goals as goal

module _ (c : After-after_test-h) where
  small : c.displaced_bits-gone.result ≤ 536870912 + 16383
  small = omega (arith, c.requires, c.displaced_bits-gone.ensures, c.bits_of.ensures, at_most c.args.fate c.args.header.b_partial_initial c.bits_of.result c.args.bits)

  module _ (words bytes payload : List ℕ) where
    abbrev m : Found Held
    m = held_of c.args.held words bytes

    abbrev f : Fragment
    f = record { header = c.args.header; bits = c.args.bits; payload = payload }

    gone : (x : Fate) → c.args.fate ≡ x → c.displaced_bits-gone.result ≡ bits_of_all (displaced x m f)
    gone x e = rw (← e, displaced_bits_are, held_bits, ← c.bits_of.ensures) c.displaced_bits-gone.ensures

    joins : (x : Fate) → c.args.fate ≡ x → (done : Bool)
        → accepted c.after_test-h.result (eqb f.bits 0) done c.displaced_bits-gone.result (bool_byte c.overlaps-errors.result)
        ≡ accepted (after_test m f.header) (eqb f.bits 0) done (bits_of_all (displaced x m f)) (overlap_errors m f)
    joins x e done = rw (← (gone x e), ← (c.after_test-h.ensures words bytes), ← (c.overlaps-errors.ensures words bytes))

pub overflow_add-gone : goal.overflow_add-gone
overflow_add-gone c = omega (arith, small (goal.at.overflow_add-gone c).After-after_test-h)

pub overflow_add-gone-in-Fails : goal.overflow_add-gone-in-Fails
overflow_add-gone-in-Fails c = omega (arith, small (goal.at.overflow_add-gone-in-Fails c).After-after_test-h)

pub returns-in-TurnedAway : goal.returns-in-TurnedAway
unfolding result_of
returns-in-TurnedAway c words bytes payload = rw c.in-TurnedAway.is c.turned_away.ensures

pub returns-in-Breaks : goal.returns-in-Breaks
unfolding result_of
returns-in-Breaks c words bytes payload =
    let e = c.in-Breaks.is in
    rw (e, ← (gone (goal.at.returns-in-Breaks c).After-after_test-h words bytes payload _ e)) c.broken.ensures

pub returns-in-Fails : goal.returns-in-Fails
unfolding result_of
returns-in-Fails c words bytes payload =
    let e = c.in-Fails.is in
    rw (e, ← (gone (goal.at.returns-in-Fails c).After-after_test-h words bytes payload _ e), ← (c.after_test-h.ensures words bytes), ← (c.overlaps-errors.ensures words bytes))
    c.failed.ensures

pub returns-in-Finishes : goal.returns-in-Finishes
unfolding result_of
returns-in-Finishes c words bytes payload =
    let e = c.in-Finishes.is in
    rw (e, ← (joins (goal.at.returns-in-Finishes c).After-after_test-h words bytes payload Fate.Finishes e true)) c.accepted.ensures

pub returns-in-Joins : goal.returns-in-Joins
unfolding result_of
returns-in-Joins c words bytes payload =
    let at = (goal.at.returns-in-Joins c).After-after_test-h in
    elim c.in-Joins.is [
      | inl joined ↦ rw (joined, ← (joins at words bytes payload Fate.Joins joined false)) c.accepted-in-Joins.ensures
      | inr falls ↦ rw (falls, ← (joins at words bytes payload Fate.Falls falls false)) c.accepted-in-Joins.ensures
    ]
