-- The law of a packed number in the word.
use mathlib.Core.Path.{refl}
use native.Mathlib.Omega.{arith}
use Rattle.packet_header.proofs.Words.{packed_reads}
use Rattle.packet_header.proofs.inner.quick.Rest.packed.Goals as goal

pub returns : goal.returns
returns c =
    let a = c.args in
    (rw (c.pass.ensures, c.low-2.ensures.0, c.low.ensures.0, c.low-bytes.ensures.0, c.only_if-3.ensures.0, c.only_if-2.ensures.0, c.only_if.ensures.0) (packed_reads a.self.now a.wanted _ _ refl refl), rw c.pass.ensures (omega arith))
