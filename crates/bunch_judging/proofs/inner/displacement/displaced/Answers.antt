-- Each way through is one clause of the definition.
use mathlib.Core.Path.{refl}
use mathlib.Core.List.{List}
use mathlib.Core.Logic.{inl, inr}
use Prim.Native.Nat.{ℕ}
use borrow.Author.Tests.{eq-eqb, ne_eqb}
use Rattle.tables.specs.Tables.{Found}
use Rattle.bunch_judging.specs.Held.{Held, Fragment}
use Rattle.bunch_judging.specs.Messages.{displaced}
use Rattle.bunch_judging.specs.Standings.{held_of}
use Rattle.bunch_judging.proofs.Telling.{initial_fails, empty_falls, falls}
use Rattle.bunch_judging.proofs.inner.displacement.displaced.Goals.{Start}
use Rattle.bunch_judging.proofs.inner.displacement.displaced.Goals as goal

abbrev held : Start → List ℕ → Found Held
held s bytes = held_of s.args.held s.args.words bytes

abbrev fragment : Start → List ℕ → Fragment
fragment s payload = record { header = s.args.header; bits = s.args.bits; payload = payload }

pub returns-then-header : goal.returns-then-header
returns-then-header c bytes payload =
    rw (
      c.in-Fails.is,
      initial_fails (held (goal.at.returns-then-header c).Start bytes) (fragment (goal.at.returns-then-header c).Start payload) _ c.if-header.true,
    )
    (c.displaced_by-then-header.ensures bytes)

pub returns-then-bits-eq0 : goal.returns-then-bits-eq0
returns-then-bits-eq0 c bytes payload =
    rw (
      c.in-Falls.is,
      empty_falls (held (goal.at.returns-then-bits-eq0 c).Start bytes) (fragment (goal.at.returns-then-bits-eq0 c).Start payload) (eq-eqb _ 0 c.if-bits-eq0.true),
      ← (c.replaced_by-replaced.ensures c.args.words bytes),
    )
    (c.displaced_by-then-bits-eq0.ensures bytes)

pub returns-in-TurnedAway : goal.returns-in-TurnedAway
unfolding displaced
returns-in-TurnedAway c bytes payload = rw c.in-TurnedAway.is refl

pub returns-in-Breaks : goal.returns-in-Breaks
unfolding displaced
returns-in-Breaks c bytes payload = rw c.in-Breaks.is (c.displaced_by.ensures bytes)

pub returns-else-header : goal.returns-else-header
unfolding displaced
returns-else-header c bytes payload = rw (c.in-Fails.is, c.if-header.false) (c.displaced_by-in-Fails.ensures bytes)

pub returns-in-Joins : goal.returns-in-Joins
unfolding displaced
returns-in-Joins c bytes payload =
    let shown = c.displaced_by-in-Joins.ensures bytes in
    elim c.in-Joins.is [
      | inl joins ↦ rw (joins, ← (c.replaced_by-replaced.ensures c.args.words bytes)) shown
      | inr finishes ↦ rw (finishes, ← (c.replaced_by-replaced.ensures c.args.words bytes)) shown
    ]

pub returns-else-bits-eq0 : goal.returns-else-bits-eq0
returns-else-bits-eq0 c bytes payload =
    rw (
      c.in-Falls.is,
      falls (held (goal.at.returns-else-bits-eq0 c).Start bytes) (fragment (goal.at.returns-else-bits-eq0 c).Start payload) (ne_eqb _ 0 c.if-bits-eq0.false),
      ← (c.replaced_by-replaced.ensures c.args.words bytes),
      ← (c.fallen.ensures bytes payload),
    )
    (c.displaced_before.ensures bytes)
