-- The law of a serialized number in the word.
use Prim.Native.Nat.{◌^◌, ◌≤◌}
use native.Mathlib.Omega.{arith}
use lib.Pow.{pow_mono}
use Rattle.packet_header.proofs.Words.{serialized_reads}
use Rattle.packet_header.proofs.inner.quick.Rest.serialized.Goals as goal

pub overflow_cast-result : goal.overflow_cast-result
overflow_cast-result c =
    let m : 2 ^ c.only_if-width.result ≤ 2 ^ 32 = pow_mono {i = c.only_if-width.result} {j = 32} (omega arith) in
    record { fits = omega (arith, c.low-value.ensures.2, m) }

pub returns : goal.returns
returns c =
    let a = c.args in
    (rw (c.pass.ensures, c.low-value.ensures.0, c.only_if-width.ensures.0, c.serialized_width.ensures.0) (serialized_reads a.max a.self.now a.wanted), rw c.pass.ensures (omega arith))
