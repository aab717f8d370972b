use Rattle.bitio_bits.proofs.Masks.{cut}
use Rattle.bitio_bits.proofs.inner.masks.low.Goals as goal

pub returns : goal.returns
returns c = cut c.args.word c.args.n c.mask.ensures
