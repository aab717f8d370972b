-- The two tests and their cases.
use borrow.Author.Tests.{lt-ltb, le-ltb}
use Rattle.bitio_window.specs.Windows.{with_bit_len}
use Rattle.bitio.proofs.Tests.{handed_out}
use Rattle.bitio.proofs.windows.with_bit_len.Goals as goal

pub returns-in_err-available : goal.returns-in_err-available
unfolding with_bit_len
returns-in_err-available c =
    let long = c.in_err-available.ensures.long in
    rw (handed_out c.from_residual.result c.in_err-available.field-0.0 c.from_residual.ensures.1, long.1, lt-ltb _ _ long.0)

pub returns-then-available-bit_len : goal.returns-then-available-bit_len
unfolding with_bit_len
returns-then-available-bit_len c =
    let there = c.in_ok-available.ensures.there in
    let few = rw there.0 at c.if-available-bit_len.true in
    rw (there.0, le-ltb _ _ there.1, lt-ltb _ _ few)

pub returns : goal.returns
unfolding with_bit_len
returns c =
    let there = c.in_ok-available.ensures.there in
    let enough = rw there.0 at c.if-available-bit_len.false in
    rw (c.front.ensures, le-ltb _ _ there.1, le-ltb _ _ enough)
