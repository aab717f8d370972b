-- The tests, the target's room, and then what is skipped.
use mathlib.Core.Path.{sym, ◌∙◌}
use Prim.Native.Nat.{◌*◌}
use native.Mathlib.Omega.{arith}
use borrow.Author.Tests.{lt-ltb, le-ltb}
use Rattle.bitio_window.specs.Copies.{copy_bits}
use Rattle.bitio_window.proofs.Rows.{refuses, lets_on}
use Rattle.bitio.proofs.Tests.{stopped, went_on, tested}
use Rattle.bitio.proofs.copies.judge.Goals as goal

pub returns-in_err-test : goal.returns-in_err-test
unfolding copy_bits
returns-in_err-test c =
    stopped c.args.bytes.now c.args.w.now _ c.from_residual.result c.in_err-test.field-0.0 c.from_residual.ensures.1 c.in_err-test.ensures

pub returns-then-room-div_ceil : goal.returns-then-room-div_ceil
unfolding copy_bits
returns-then-room-div_ceil c =
    let a = c.args in
    let few = rw c.div_ceil.ensures at c.if-room-div_ceil.true in
    sym (went_on a.bytes.now a.w.now _ c.in_ok-test.ensures ∙ refuses _ _ _ _ (lt-ltb (8 * a.room) a.count (omega (arith, few))))

pub skip-requires : goal.skip-requires
skip-requires c = (tested _ _ c.in_ok-test.ensures).cursor_within

pub returns : goal.returns
unfolding copy_bits
returns c =
    let a = c.args in
    let enough = rw c.div_ceil.ensures at c.if-room-div_ceil.false in
    c.skip.ensures a.bytes.now
    ∙ sym (went_on a.bytes.now a.w.now _ c.in_ok-test.ensures ∙ lets_on _ _ _ _ (le-ltb (8 * a.room) a.count (omega (arith, enough))))
