-- Too few bits, or the bit and the window past it: the laws of Steps.
use mathlib.Core.Path.{sym}
use borrow.Author.Rules.{rules}
use Rattle.bitio_window.proofs.Handed.{handed_on}
use Rattle.bitio_window.proofs.Steps.{bit_short, bit_there, sound_past}
use Rattle.bitio_window.proofs.inner.bit.Goals as goal

pub returns-in_err-need : goal.returns-in_err-need
returns-in_err-need c =
    let s = c.in_err-need.ensures.short in
    rw (handed_on c.from_residual.result c.in_err-need.field-0.0 c.args.w.now c.from_residual.ensures.1, s.1) (sym (bit_short c.args.bytes.now c.args.w.now s.0), c.requires)

pub bit_at-value-requires : goal.bit_at-value-requires
bit_at-value-requires c = rw c.packet_bit.ensures (search rules)

pub returns : goal.returns
returns c =
    let h = c.in_ok-need.ensures.there in
    rw (c.advance.ensures, c.bit_at-value.ensures, c.packet_bit.ensures)
    (sym (bit_there c.args.bytes.now c.args.w.now h), sound_past c.args.bytes.now c.args.w.now 1 c.requires h)
