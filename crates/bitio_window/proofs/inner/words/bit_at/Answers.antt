-- One byte, shifted: document 01's own words.
use Rattle.bitio_bits.specs.Bits.{bit_at}
use Rattle.bitio_bits.proofs.Numbers.{bits_one}
use Rattle.bitio_window.proofs.inner.words.bit_at.Goals as goal

pub returns : goal.returns
unfolding bit_at
returns c = rw (bits_one, c.byte.ensures.0)
