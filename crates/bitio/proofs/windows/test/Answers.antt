-- Each way out is one law of the tests.
use mathlib.Core.Path.{◌≡◌, sym, ap, ◌∙◌}
use Prim.Native.Nat.{ℕ, ◌*◌, ◌-◌}
use lib.ListN.{length}
use Rattle.bitio_window.specs.Refusals.{beyond}
use Rattle.bitio_window.specs.Parse.{refused}
use Rattle.bitio_window.proofs.Handed.{handed_on}
use Rattle.bitio.proofs.Tests.{too_long_is, past_data, past_window, fine}
use Rattle.bitio.proofs.windows.test.Goals.{After-saturating_sub-available}
use Rattle.bitio.proofs.windows.test.Goals as goal

pub returns-in_err-data_bits : goal.returns-in_err-data_bits
returns-in_err-data_bits c =
    let long = c.in_err-data_bits.ensures.long in
    rw (handed_on c.from_residual.result c.in_err-data_bits.field-0.0 c.args.w c.from_residual.ensures.1, long.1) (sym (too_long_is c.args.bytes.now c.args.w long.0))

-- the data's bits from the window's start on
there : (c : After-saturating_sub-available) → c.saturating_sub-available.result ≡ 8 * length c.args.bytes.now - c.args.w.start.0
there c = c.saturating_sub-available.ensures ∙ ap (λ (n : ℕ). n - c.args.w.start.0) c.in_ok-data_bits.ensures.there.0

pub returns-then-available-w : goal.returns-then-available-w
returns-then-available-w c =
    let w = c.args.w in
    let e = there (goal.at.returns-then-available-w c).After-saturating_sub-available in
    ap (λ (n : ℕ). refused (beyond w.length n) w) e ∙ sym (past_data c.args.bytes.now w c.in_ok-data_bits.ensures.there.1 (rw e at c.if-available-w.true))

pub returns-then-w : goal.returns-then-w
returns-then-w c =
    let e = there (goal.at.returns-then-w c).After-saturating_sub-available in
    sym (past_window c.args.bytes.now c.args.w c.in_ok-data_bits.ensures.there.1 (rw e at c.if-available-w.false) c.if-w.true)

pub returns : goal.returns
returns c =
    let e = there (goal.at.returns c).After-saturating_sub-available in
    sym
    (fine c.args.bytes.now c.args.w
    (record { data_within = c.in_ok-data_bits.ensures.there.1; window_within = rw e at c.if-available-w.false; cursor_within = c.if-w.false }))
