-- The tests, and then what `inner` hands out.
use mathlib.Core.Path.{sym, ◌∙◌}
use native.Mathlib.Omega.{arith}
use Rattle.bitio_window.specs.Windows.{sub_reader}
use Rattle.bitio.proofs.Tests.{stopped, went_on, tested}
use Rattle.bitio.proofs.windows.sub_reader.Goals as goal

pub returns-in_err-test : goal.returns-in_err-test
unfolding sub_reader
returns-in_err-test c =
    stopped c.args.bytes.now c.args.w.now _ c.from_residual.result c.in_err-test.field-0.0 c.from_residual.ensures.1 c.in_err-test.ensures

pub sub-requires : goal.sub-requires
sub-requires c = let s = tested _ _ c.in_ok-test.ensures in (s.cursor_within, λ h. omega (arith, s, h))

pub returns : goal.returns
unfolding sub_reader
returns c = c.sub.ensures _ ∙ sym (went_on c.args.bytes.now c.args.w.now _ c.in_ok-test.ensures)
