-- Each way out is one law of Records, at what the count's read gave.
use mathlib.Core.Path.{sym}
use Rattle.bitio_window.proofs.Steps.{sound_past}
use Rattle.field_walking.proofs.Handed.{handed_on}
use Rattle.field_walking.proofs.Records.{counted_refused, overlong, whole}
use Rattle.field_walking.proofs.inner.counted.Goals as goal

pub returns-in_err-bit_count : goal.returns-in_err-bit_count
returns-in_err-bit_count c =
    let a = c.args in
    let e = c.in_err-bit_count.ensures in
    rw (handed_on c.from_residual.result c.in_err-bit_count.field-0.0 c.packed.new.w c.from_residual.ensures.1) (sym (counted_refused a.bytes.now a.w.now a.handle (sym e.0)), e.1)

pub returns-then-left-bits : goal.returns-then-left-bits
returns-then-left-bits c =
    let a = c.args in
    let e = c.in_ok-bit_count.ensures in
    (sym (overlong a.bytes.now a.w.now a.handle (sym e.0) (rw (c.left.ensures, c.from-bits.ensures) at c.if-left-bits.true)), e.1)

pub returns : goal.returns
returns c =
    let a = c.args in
    let e = c.in_ok-bit_count.ensures in
    let h = rw (c.left.ensures, c.from-bits.ensures) at c.if-left-bits.false in
    rw (c.advance.ensures, c.packet_bit.ensures, c.from-bits.ensures)
    (sym (whole a.bytes.now a.w.now a.handle (sym e.0) h), sound_past a.bytes.now c.packed.new.w c.in_ok-bit_count.bit_count e.1 h)
