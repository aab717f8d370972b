-- Where the bits used were there the word's fields are the header's; else the row reads it.
use Rattle.packet_header.specs.Header.{fields}
use Rattle.bitio_window.proofs.Steps.{sound_past}
use Rattle.packet_header.proofs.Words.{tested, header_reads}
use Rattle.packet_header.proofs.inner.read_fields.Goals as goal

pub returns-then-rest-left : goal.returns-then-rest-left
returns-then-rest-left c =
    let d = c.args.bytes.now in
    let w = c.args.w.now in
    let there = tested w c.fields_of-quick.result.rest.used (rw c.left.ensures at c.if-rest-left.true) in
    rw c.advance.ensures (header_reads d w fields (rw c.packet_bit.ensures at c.peek.ensures) c.fields_of-quick.ensures there, sound_past d w c.fields_of-quick.result.rest.used c.requires there.in_window)
