-- Before the loop no place is written, and a turn writes the next one.
use mathlib.Core.Path.{sym}
use native.Mathlib.Numerals.{add-one}
use native.Mathlib.Omega.{arith}
use Rattle.field_records.proofs.Filled.{filled_none, filled_next}
use Rattle.field_records.proofs.inner.fill.Goals as goal

pub loop-i-init : goal.loop-i-init
loop-i-init c = sym (filled_none c.args.numbers.now c.args.records.now)

pub loop-i-preserved : goal.loop-i-preserved
loop-i-preserved c =
    rw (c.record_of.ensures, c.loop-i.invariant, add-one c.loop-i.i)
    (filled_next c.args.numbers.now c.args.records.now c.loop-i.i (omega (arith, c.requires.written, c.loop-i-test.true)) (omega (arith, c.requires.placed, c.loop-i-test.true)))
