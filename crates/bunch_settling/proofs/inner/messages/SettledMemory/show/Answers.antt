-- The payload goes behind what was copied to the front.
use native.Mathlib.Omega.{arith}
use Rattle.bunch_settling.proofs.Edits.{shown}
use Rattle.bunch_settling.proofs.inner.messages.SettledMemory.show.Goals as goal

pub returns : goal.returns
returns c =
    let a = c.args in
    shown a.from a.n a.bits a.self.now.arena.now a.payload.now a.output.now (omega arith) (omega arith) c.copy_out.ensures c.put_payload.ensures
