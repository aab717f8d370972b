-- The tests, and then the window at its end.
use mathlib.Core.Path.{sym}
use Rattle.bitio_window.specs.Windows.{skipped_to_end, skip_remaining}
use Rattle.bitio.proofs.Tests.{stopped, went_on}
use Rattle.bitio.proofs.windows.skip_remaining.Goals as goal

pub returns-in_err-test : goal.returns-in_err-test
unfolding skip_remaining
returns-in_err-test c =
    stopped c.args.bytes.now c.args.w.now _ c.from_residual.result c.in_err-test.field-0.0 c.from_residual.ensures.1 c.in_err-test.ensures

pub returns : goal.returns
unfolding skip_remaining skipped_to_end
returns c = rw c.move_to_end.ensures (sym (went_on c.args.bytes.now c.args.w.now _ c.in_ok-test.ensures))
