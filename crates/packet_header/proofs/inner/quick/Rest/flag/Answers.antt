-- The law of a flag of the word.
use native.Mathlib.Omega.{arith}
use Rattle.packet_header.proofs.Words.{flag_reads}
use Rattle.packet_header.proofs.inner.quick.Rest.flag.Goals as goal

pub returns : goal.returns
returns c =
    let a = c.args in
    rw (c.pass.ensures, c.only_if.ensures.0) (flag_reads a.self.now a.wanted, omega arith)
