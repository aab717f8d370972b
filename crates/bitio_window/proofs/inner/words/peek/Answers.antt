-- The word is one load, shifted: the law of Loads.
use native.Mathlib.Omega.{arith}
use Rattle.bitio_bits.proofs.Loads.{peeked}
use Rattle.bitio_window.proofs.inner.words.peek.Goals as goal

pub returns : goal.returns
returns c = peeked c.args.bytes.now (λ i. omega (arith, c.shared_slice_known-1.given i)) c.args.at.0 c.load_u64.ensures
