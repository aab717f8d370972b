-- The number's lowest bits, as many as it takes: they hold it.
use Rattle.bitio_window.proofs.Widths.{width_holds}
use Rattle.writer_spelling.proofs.Spelling.{serialized_bits_are}
use Rattle.writer_spelling.proofs.inner.Bits.serialized_if.Goals as goal

pub add_if-requires : goal.add_if-requires
add_if-requires c =
    let a = c.args in
    let p = c.requires in
    rw c.serialized_width.ensures.0 (p.0, width_holds a.max c.ranges.max.fits a.value p.1, p.2)

pub returns : goal.returns
returns c =
    let a = c.args in
    rw (serialized_bits_are a.max a.value) (rw c.serialized_width.ensures.0 at c.add_if.ensures)
