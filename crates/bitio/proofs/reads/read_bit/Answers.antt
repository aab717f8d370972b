-- The tests, and then what `inner` reads.
use mathlib.Core.Path.{sym, ◌∙◌}
use Rattle.bitio_window.specs.Reads.{read_bit}
use Rattle.bitio.proofs.Tests.{stopped, went_on, tested}
use Rattle.bitio.proofs.reads.read_bit.Goals as goal

pub returns-in_err-test : goal.returns-in_err-test
unfolding read_bit
returns-in_err-test c =
    stopped c.args.bytes.now c.args.w.now _ c.from_residual.result c.in_err-test.field-0.0 c.from_residual.ensures.1 c.in_err-test.ensures

pub bit-requires : goal.bit-requires
bit-requires c = tested _ _ c.in_ok-test.ensures

pub returns : goal.returns
unfolding read_bit
returns c = c.bit.ensures.0 ∙ sym (went_on c.args.bytes.now c.args.w.now _ c.in_ok-test.ensures)
