-- A refused copy writes nothing; any other has the room and the bits that `copy_bits` asks for.
use mathlib.Core.Path.{◌∙◌}
use native.Mathlib.Omega.{arith}
use lib.ListN.{length}
use Rattle.bitio_window.proofs.Handed.{handed_on}
use Rattle.bitio.proofs.CopyTests.{Copyable, copyable, nothing_left, copy_left}
use Rattle.bitio.proofs.copies.copy_bits_to.Goals.{In_ok-judge}
use Rattle.bitio.proofs.copies.copy_bits_to.Goals as goal

-- where the copy is judged fit
fit : (c : In_ok-judge) → Copyable c.args.bytes.now c.args.w.now (length c.args.target.now) c.args.count
fit c = copyable _ _ _ _ _ c.in_ok-judge.ensures

pub returns-in_err-judge : goal.returns-in_err-judge
returns-in_err-judge c =
    record {
      answers = handed_on c.from_residual.result c.in_err-judge.field-0.0 _ c.from_residual.ensures.1 ∙ c.in_err-judge.ensures;
      leaves = nothing_left _ _ _ _ _ c.from_residual.result c.in_err-judge.field-0.0 c.from_residual.ensures.1;
    }

pub packet_bit-requires : goal.packet_bit-requires
packet_bit-requires c = let f = (fit (goal.at.packet_bit-requires c).In_ok-judge).window in λ h. omega (arith, f, h)

pub copy_bits-requires : goal.copy_bits-requires
copy_bits-requires c =
    let f = fit (goal.at.copy_bits-requires c).In_ok-judge in
    rw c.packet_bit.ensures (omega (arith, f.window, f.there), omega (arith, f.target), f.window.data_within)

pub returns : goal.returns
returns c =
    record { answers = c.in_ok-judge.ensures; leaves = copy_left _ _ _ _ _ (rw c.packet_bit.ensures at c.copy_bits.ensures) }
