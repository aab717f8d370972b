-- The tests, the maximum, and then what `inner` reads.
use mathlib.Core.Path.{sym, ◌∙◌}
use native.Mathlib.Omega.{arith}
use borrow.Author.Tests.{eq-eqb, ne_eqb}
use Rattle.bitio_window.specs.Numbers.{read_serialized}
use Rattle.bitio_window.proofs.Rows.{refuses, lets_on}
use Rattle.bitio.proofs.Tests.{stopped, went_on, tested}
use Rattle.bitio.proofs.reads.read_serialized_int.Goals as goal

pub returns-in_err-test : goal.returns-in_err-test
unfolding read_serialized
returns-in_err-test c =
    stopped c.args.bytes.now c.args.w.now _ c.from_residual.result c.in_err-test.field-0.0 c.from_residual.ensures.1 c.in_err-test.ensures

pub returns-then-max-eq0 : goal.returns-then-max-eq0
unfolding read_serialized
returns-then-max-eq0 c =
    sym (went_on c.args.bytes.now c.args.w.now _ c.in_ok-test.ensures ∙ refuses _ _ _ _ (eq-eqb c.args.max 0 c.if-max-eq0.true))

pub serialized-requires : goal.serialized-requires
serialized-requires c = (tested _ _ c.in_ok-test.ensures, omega (arith, c.if-max-eq0.false))

pub returns : goal.returns
unfolding read_serialized
returns c =
    c.serialized.ensures.0
    ∙ sym (went_on c.args.bytes.now c.args.w.now _ c.in_ok-test.ensures ∙ lets_on _ _ _ _ (ne_eqb c.args.max 0 c.if-max-eq0.false))
