-- Too few bits, or the bits and the window past them: the laws of Steps.
use mathlib.Core.Path.{sym}
use borrow.Author.Rules.{rules}
use Rattle.bitio_window.proofs.Handed.{handed_on}
use Rattle.bitio_window.proofs.Steps.{bits_short, bits_there, sound_past}
use Rattle.bitio_window.proofs.inner.bits.Goals as goal

pub returns-in_err-need : goal.returns-in_err-need
returns-in_err-need c =
    let s = c.in_err-need.ensures.short in
    rw (handed_on c.from_residual.result c.in_err-need.field-0.0 c.args.w.now c.from_residual.ensures.1, s.1) (sym (bits_short c.args.bytes.now c.args.w.now c.args.count s.0), c.requires.0)

pub bits_at-value-requires : goal.bits_at-value-requires
bits_at-value-requires c = rw c.packet_bit.ensures (search rules)

pub returns : goal.returns
returns c =
    let h = c.in_ok-need.ensures.there in
    rw (c.advance.ensures, c.bits_at-value.ensures.0, c.packet_bit.ensures)
    (sym (bits_there c.args.bytes.now c.args.w.now c.args.count h), sound_past c.args.bytes.now c.args.w.now c.args.count c.requires.0 h)
