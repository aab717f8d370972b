-- `Going` holds at each record; the ways out are one law of Going.
use mathlib.Core.Path.{refl, sym}
use Rattle.field_walking.proofs.Handed.{walk_handed_on}
use Rattle.field_walking.proofs.Moves.{moves_look}
use Rattle.field_walking.proofs.Going.{on_less, stops, stops_full, goes_on}
use Rattle.field_walking.proofs.inner.walk_on.Goals as goal

pub returns-in_err-look : goal.returns-in_err-look
returns-in_err-look c = rw (walk_handed_on c.from_residual.result c.in_err-look.field-0.0 c.look.new.w c.from_residual.ensures.1) (stops c.loop-bits.invariant (sym c.in_err-look.ensures.0) refl)

pub returns-in-Ends : goal.returns-in-Ends
returns-in-Ends c = stops c.loop-bits.invariant (sym (rw c.in-Ends.is at c.in_ok-look.ensures.0)) refl

pub returns-in-Abandons : goal.returns-in-Abandons
returns-in-Abandons c = rw (c.move_to_end.ensures, c.left-bits.ensures) (stops c.loop-bits.invariant (sym (rw c.in-Abandons.is at c.in_ok-look.ensures.0)) refl)

pub returns-then-k-records : goal.returns-then-k-records
returns-then-k-records c = rw c.place_of.ensures (stops_full c.loop-bits.invariant (sym (rw c.in-Found.is at c.in_ok-look.ensures.0)) c.if-k-records.true)

pub loop-bits-smaller : goal.loop-bits-smaller
loop-bits-smaller c =
    let found = rw c.in-Found.is at c.in_ok-look.ensures.0 in
    on_less ((moves_look c.args.kind).moves c.args.bytes.now c.loop-bits.w (sym found)) c.in_ok-look.ensures.1

pub loop-bits-preserved : goal.loop-bits-preserved
loop-bits-preserved c =
    let found = rw c.in-Found.is at c.in_ok-look.ensures.0 in
    rw c.from.ensures
    (goes_on c.loop-bits.invariant (sym found) c.if-k-records.false ((moves_look c.args.kind).moves c.args.bytes.now c.loop-bits.w (sym found)) c.in_ok-look.ensures.1)
