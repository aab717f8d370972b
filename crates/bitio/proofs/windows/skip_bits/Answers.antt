-- The tests, and then what `inner` skips.
use mathlib.Core.Path.{sym, ◌∙◌}
use Rattle.bitio_window.specs.Windows.{skip_bits}
use Rattle.bitio.proofs.Tests.{stopped, went_on, tested}
use Rattle.bitio.proofs.windows.skip_bits.Goals as goal

pub returns-in_err-test : goal.returns-in_err-test
unfolding skip_bits
returns-in_err-test c =
    stopped c.args.bytes.now c.args.w.now _ c.from_residual.result c.in_err-test.field-0.0 c.from_residual.ensures.1 c.in_err-test.ensures

pub skip-requires : goal.skip-requires
skip-requires c = (tested _ _ c.in_ok-test.ensures).cursor_within

pub returns : goal.returns
unfolding skip_bits
returns c = c.skip.ensures _ ∙ sym (went_on c.args.bytes.now c.args.w.now _ c.in_ok-test.ensures)
