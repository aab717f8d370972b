-- A line for each field up to the channel.
use Prim.Native.Nat.{ℕ, ◌≤◌}
use native.Mathlib.Omega.{arith}
use Rattle.bitio_window.specs.Widths.{serialized_width}
use Rattle.bitio_window.proofs.Widths.{width_most}
use Rattle.types.specs.Types.{close_reason_maximum}
use Rattle.types.proofs.Reasons.{maximum_least, maximum_most}
use Rattle.writer_spelling.specs.Header.{front_bits}
use Rattle.writer_spelling.proofs.Spelling.{then, at_most}
use Rattle.writer_spelling.proofs.inner.words.front.Goals.{After-serialized_if}
use Rattle.writer_spelling.proofs.inner.words.front.Goals as goal

reason_short : (reason : ℕ) → serialized_width close_reason_maximum reason ≤ 11
reason_short reason = width_most close_reason_maximum (omega (arith, maximum_most)) reason 11 (omega (arith, maximum_least)) maximum_most

pub serialized_if-requires : goal.serialized_if-requires
unfolding close_reason_maximum
serialized_if-requires c =
    (c.flag_if-2.ensures.whole, c.requires, omega (arith, reason_short c.args.f.close_reason))

-- the bits up to the reason, for `omega` to start from
half : (c : After-serialized_if) → c.serialized_if.result.count ≤ 14
unfolding close_reason_maximum
half c = omega (arith, c.serialized_if.ensures.grows, reason_short c.args.f.close_reason)

pub returns : goal.returns
unfolding front_bits close_reason_maximum
returns c =
    then (rw c.nothing.ensures.0 at c.flag.ensures)
    (then c.flag_if.ensures
    (then c.flag_if-2.ensures
    (then (at_most (reason_short _) c.serialized_if.ensures)
    (then c.flag-2.ensures
    (then c.flag-3.ensures
    c.packed.ensures)))))

pub flag-requires-2 : goal.flag-requires-2
flag-requires-2 c = (c.serialized_if.ensures.whole, omega (arith, half (goal.at.flag-requires-2 c).After-serialized_if))

pub flag-requires-3 : goal.flag-requires-3
flag-requires-3 c = (c.flag-2.ensures.whole, omega (arith, half (goal.at.flag-requires-3 c).After-serialized_if))

pub packed-requires : goal.packed-requires
packed-requires c = (c.flag-3.ensures.whole, omega (arith, half (goal.at.packed-requires c).After-serialized_if))
