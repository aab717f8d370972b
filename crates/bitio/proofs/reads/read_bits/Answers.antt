-- The tests, the width, and then what `inner` reads.
use mathlib.Core.Path.{sym, ◌∙◌}
use borrow.Author.Tests.{lt-ltb, le-ltb}
use Rattle.bitio_window.specs.Reads.{read_bits}
use Rattle.bitio_window.proofs.Rows.{refuses, lets_on}
use Rattle.bitio.proofs.Tests.{stopped, went_on, tested}
use Rattle.bitio.proofs.reads.read_bits.Goals as goal

pub returns-in_err-test : goal.returns-in_err-test
unfolding read_bits
returns-in_err-test c =
    stopped c.args.bytes.now c.args.w.now _ c.from_residual.result c.in_err-test.field-0.0 c.from_residual.ensures.1 c.in_err-test.ensures

pub returns-then-count-gt64 : goal.returns-then-count-gt64
unfolding read_bits
returns-then-count-gt64 c =
    sym (went_on c.args.bytes.now c.args.w.now _ c.in_ok-test.ensures ∙ refuses _ _ _ _ (lt-ltb 64 c.args.count c.if-count-gt64.true))

pub bits-requires : goal.bits-requires
bits-requires c = (tested _ _ c.in_ok-test.ensures, c.if-count-gt64.false)

pub returns : goal.returns
unfolding read_bits
returns c =
    c.bits.ensures.0
    ∙ sym (went_on c.args.bytes.now c.args.w.now _ c.in_ok-test.ensures ∙ lets_on _ _ _ _ (le-ltb 64 c.args.count c.if-count-gt64.false))
