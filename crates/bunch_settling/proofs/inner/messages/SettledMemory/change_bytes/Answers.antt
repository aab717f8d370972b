-- The room that is required keeps every index and sum in range; the steps together are `changed`.
use Prim.Native.Nat.{ℕ}
use mathlib.Core.Path.{refl, ap, ◌∙◌}
use Rattle.bunch_places.specs.Bytes.{bytes_of}
use Rattle.bunch_settling.proofs.Edits.{changed}
use Rattle.bunch_settling.proofs.inner.messages.SettledMemory.change_bytes.Goals as goal

pub returns-clause-lays : goal.returns-clause-lays
returns-clause-lays c = λ m k i p arena before after g h x.
    let moved = c.move_bytes in
    let size = c.bytes_of-size in
    let n = c.bytes_of-n in
    changed _ m _ k i _ _ p _ _ g _ _ (size.ensures ∙ ap (λ (b : ℕ). bytes_of b) before) n.ensures (rw arena moved.ensures) c.put_payload.ensures refl (rw (← before, ← after) refl) h x

pub returns-clause-others : goal.returns-clause-others
returns-clause-others c = (refl, refl)
