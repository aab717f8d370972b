-- The whole bytes are copied, and what is left of the bits goes behind them.
use native.Mathlib.Omega.{arith}
use Rattle.bunch_places.proofs.Payloads.{whole_bytes, pasted_rest}
use Rattle.bunch_places.proofs.inner.put_payload.Goals as goal

pub returns-then-rest-gt0 : goal.returns-then-rest-gt0
returns-then-rest-gt0 c =
    let a = c.args in
    rw (c.copy_bytes.ensures, c.low.ensures)
    (pasted_rest a.bits a.src.now (omega arith) a.at a.out.now c.if-rest-gt0.true (omega arith))

pub returns-else-rest-gt0 : goal.returns-else-rest-gt0
returns-else-rest-gt0 c =
    let a = c.args in
    rw (whole_bytes a.bits a.src.now (omega arith)) c.copy_bytes.ensures
