-- The arena's part of an edit, in the numbers that the code has: where the message starts, its bytes, and the bytes that are used.
use Prim.Native.Nat.{ℕ, ◌+◌, ◌≤◌, ◌<◌}
use mathlib.Core.Path.{◌≡◌, sym, ap, ◌∙◌}
use mathlib.Core.List.{List, []}
use native.Mathlib.Omega.{arith}
use lib.ListN.{length, get_or, take, get_or-map}
use Rattle.tables.specs.Columns.{laid, inserted_at, removed_at}
use Rattle.tables.specs.Tables.{values}
use Rattle.bunch_places.specs.Bytes.{pasted, part}
use Rattle.bunch_places.specs.Packed.{joined}
use Rattle.bunch_places.proofs.Arena.{removed, inserted}
use Rattle.bunch_judging.specs.Held.{Held}
use Rattle.bunch_held.specs.declared.Accumulator.{Accumulator}
use Rattle.bunch_held.specs.Memory.{HeldMemory, size_of, size_all, held_at, bytes_all}
use Rattle.bunch_held.specs.State.{Stands}
use Rattle.bunch_held.specs.Calls.{held_by}
use Rattle.bunch_held.proofs.Holding.{message_at, message_at_is, bytes_first, starts, starts_next}
use Rattle.bunch_held.proofs.Edits.{packed}

module _ (a : Accumulator) (m : HeldMemory) (s : Stands a m) (i : ℕ) where
  abbrev p : List ℕ
  p = get_or m.places i []

  module _ (h : i < a.active) where
    pub packed_at : get_or (packed a m) i [] ≡ (message_at m i).message.bytes
    unfolding held_at
    packed_at = get_or-map (λ (x : Held). x.message.bytes) (values (held_by a m)) i (held_at [] []) ∙ ap (λ (x : Held). x.message.bytes) (message_at_is a m s (held_at [] []) i h)

  -- the n bytes from `from` on, up to the last that is used, have moved to `to`
  module _ (from to n : ℕ) (used : from + n ≡ length (bytes_all (held_by a m))) {moved : List ℕ} (moves : moved ≡ pasted to (part from n m.arena) m.arena) where
    -- up from where a message is to stand, and its bytes are pasted there
    pub bytes_in : (b : List ℕ) {out : List ℕ} → i ≤ a.active → from ≡ size_all (take i m.places) → to ≡ from + length b → to ≤ length m.arena
        → out ≡ pasted from b moved → out ≡ laid (joined (inserted_at i b (packed a m))) m.arena
    bytes_in b h e f g pastes = inserted (packed a m) m.arena (bytes_first a m s) i from to n used moves b (e ∙ sym (starts a m s i h)) f g pastes

    module _ (h : i < a.active) (next : from ≡ size_all (take i m.places) + size_of p) where
      -- down over message i
      pub bytes_out : to ≡ size_all (take i m.places) → moved ≡ laid (joined (removed_at i (packed a m))) m.arena
      bytes_out e = removed (packed a m) m.arena (bytes_first a m s) i from to n used moves (e ∙ sym (starts a m s i (omega arith))) (next ∙ sym (starts_next a m s i h))
