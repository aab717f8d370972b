-- A line for each field after the channel.
use Prim.Native.Nat.{ℕ, ◌≤◌}
use native.Mathlib.Omega.{arith}
use Rattle.bitio_window.specs.Widths.{serialized_width}
use Rattle.bitio_window.proofs.Widths.{width_most}
use Rattle.types.specs.Types.{payload_maximum}
use Rattle.writer_spelling.specs.Bits.{only_if}
use Rattle.writer_spelling.specs.Header.{back_bits}
use Rattle.writer_spelling.proofs.Spelling.{then, at_most}
use Rattle.writer_spelling.proofs.Packing.{zero_bits}
use Rattle.writer_spelling.proofs.inner.words.back.Goals.{After-flag-4}
use Rattle.writer_spelling.proofs.inner.words.back.Goals as goal

-- the bits half way, for `omega` to start from
half : (c : After-flag-4) → c.flag-4.result.count ≤ 4
half c = omega arith

count_short : (count : ℕ) → serialized_width payload_maximum count ≤ 32
count_short count = width_most payload_maximum (omega arith) count 32 (omega arith) (omega arith)

pub serialized_if-requires : goal.serialized_if-requires
serialized_if-requires c =
    (c.add_if.ensures.whole, c.requires, omega (arith, half (goal.at.serialized_if-requires c).After-flag-4, count_short c.args.f.payload_bit_count))

pub returns : goal.returns
unfolding back_bits only_if
returns c =
    then (rw c.nothing.ensures.0 at c.flag.ensures)
    (then c.flag-2.ensures
    (then c.flag-3.ensures
    (then c.flag-4.ensures
    (then c.flag_if.ensures
    (then c.flag_if-2.ensures
    (then c.flag_if-3.ensures
    (then (rw (← zero_bits) at c.add_if.ensures)
    (at_most (count_short _) c.serialized_if.ensures))))))))
