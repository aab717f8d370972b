-- The test and its two cases.
use borrow.Author.Tests.{lt-ltb, le-ltb}
use Rattle.bitio_window.specs.Windows.{new_window}
use Rattle.bitio.proofs.Tests.{handed_out}
use Rattle.bitio.proofs.windows.new.Goals as goal

pub returns-in_err-data_bits : goal.returns-in_err-data_bits
unfolding new_window
returns-in_err-data_bits c =
    let long = c.in_err-data_bits.ensures.long in
    rw (handed_out c.from_residual.result c.in_err-data_bits.field-0.0 c.from_residual.ensures.1, long.1, lt-ltb _ _ long.0)

pub returns : goal.returns
unfolding new_window
returns c =
    let there = c.in_ok-data_bits.ensures.there in
    rw (c.front.ensures, there.0, le-ltb _ _ there.1)
