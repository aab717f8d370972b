-- Edits of sound memory at the slot that a channel's search gives: what the channel holds there, and that putting a message in and
-- taking one out by index lays the state that `put` and `without` mean.
use Prim.Native.Nat.{ℕ, zero, suc, ◌+◌, ◌-◌, ◌≤◌, ◌<◌}
use mathlib.Core.Path.{◌≡◌, refl, sym, ap, ◌∙◌}
use mathlib.Core.List.{List, [], ◌∷◌, map}
use native.Mathlib.Omega.{arith}
use lib.ListN.{length, get_or, set, take}
use lib.Seq.{length-take-le}
use Rattle.std.specs.Prelude.{Ok, Err}
use Rattle.tables.specs.Columns.{laid, inserted_at, removed_at}
use Rattle.tables.specs.Tables.{none, found, get, put, without, values, slot_of}
use Rattle.tables.proofs.Columns.{laid_take, laid_set, inserted_map, removed_map}
use Rattle.tables.proofs.Join.{at_get, at_live, free_get, free_live, free_without}
use Rattle.tables.proofs.Held.{Holds, at_put_holds, at_without_holds, free_put_holds}
use Rattle.bunch_places.specs.Packed.{joined}
use Rattle.bunch_judging.specs.Held.{Held}
use Rattle.bunch_held.specs.declared.Accumulator.{Accumulator}
use Rattle.bunch_held.specs.Memory.{HeldMemory, held_memory, State, place_words, bits_in_place, size_of, held_at, held_in, state_of, bytes_each, bytes_all, laid_in, total}
use Rattle.bunch_held.specs.State.{Stands}
use Rattle.bunch_held.specs.Calls.{held_by}
use Rattle.bunch_held.proofs.Holding.{message_at, length_held, columns, message_at_is, places_are, total_is, kept}
use Rattle.bunch_held.proofs.Keeping.{total_put, total_there, bytes_put, bytes_there, good_held}

set_map : {A B : Type 0} (f : A → B) (i : ℕ) (x : A) (l : List A) → map f (set l i x) ≡ set (map f l) i (f x)
set_map f i x [] = refl
set_map f zero x (y ∷ l) = refl
set_map f (suc i) x (y ∷ l) = ap (λ (t : List _). f y ∷ t) (set_map f i x l)

-- the messages' bytes, as they stand in the arena
abbrev pub packed : Accumulator → HeldMemory → List (List ℕ)
packed a m = bytes_each (values (held_by a m))

module _ (a : Accumulator) (m : HeldMemory) (s : Stands a m) (c i : ℕ) where
  abbrev cs : List ℕ
  cs = take a.active m.channels

  abbrev ps : List (List ℕ)
  ps = take a.active m.places

  abbrev hs : List Held
  hs = held_in ps m.arena

  channels_long : length cs ≡ a.active
  channels_long = length-take-le a.active m.channels (omega (arith, s))

  held_long : length hs ≡ a.active
  held_long = length_held ps m.arena ∙ length-take-le a.active m.places (omega (arith, s))

  placed : map place_words hs ≡ ps
  placed = rw (columns a m s).second at (places_are a m s)

  -- a table whose columns these are, laid
  laid_is : {t : State} {cs' : List ℕ} {hs' : List Held} {n : ℕ} → Holds t cs' hs' n
      → {channels arena : List ℕ} {places : List (List ℕ)} → channels ≡ laid cs' m.channels → places ≡ laid (map place_words hs') m.places → arena ≡ laid (joined (bytes_each hs')) m.arena
      → held_memory channels places arena ≡ laid_in t m
  unfolding laid_in
  laid_is h e f g = rw (h.first, h.second, e, f, g)

  -- ## The channel stands at place i
  module _ (slot : slot_of c cs ≡ Ok i) where
    abbrev p : List ℕ
    p = get_or m.places i []

    pub place_live : i < a.active
    place_live = at_live c i a.active m.channels (omega (arith, s)) slot

    pub get_there : get c (held_by a m) ≡ found (message_at m i)
    unfolding state_of
    get_there = at_get c i cs slot hs (channels_long ∙ sym held_long) (held_at [] []) ∙ rw (← message_at_is a m s (held_at [] []) i place_live, (columns a m s).second) refl

    put_columns : (h : Held) → Holds (put c h (held_by a m)) cs (set hs i h) a.active
    unfolding state_of
    put_columns h = at_put_holds c i cs hs channels_long held_long s.ascends slot h

    without_columns : Holds (without c (held_by a m)) (removed_at i cs) (removed_at i hs) (a.active - 1)
    unfolding state_of
    without_columns = at_without_holds c i cs hs channels_long held_long s.ascends slot (omega (arith, place_live))

    pub lays_changed : (h : Held) {arena : List ℕ} {places : List (List ℕ)} → places ≡ set m.places i (place_words h) → arena ≡ laid (joined (set (packed a m) i h.message.bytes)) m.arena
        → held_memory m.channels places arena ≡ laid_in (put c h (held_by a m)) m
    lays_changed h f g =
        laid_is (put_columns h) (sym (laid_take a.active m.channels)) (f ∙ laid_set a.active i (place_words h) m.places place_live ∙ rw (set_map place_words i h hs, placed) refl)
        (g ∙ rw ((columns a m s).second, set_map (λ (x : Held). x.message.bytes) i h hs) refl)

    pub lays_removed : {channels arena : List ℕ} {places : List (List ℕ)} → channels ≡ laid (removed_at i cs) m.channels → places ≡ laid (removed_at i ps) m.places
        → arena ≡ laid (joined (removed_at i (packed a m))) m.arena → held_memory channels places arena ≡ laid_in (without c (held_by a m)) m
    lays_removed e f g =
        laid_is without_columns e (f ∙ rw (removed_map place_words i hs, placed) refl) (g ∙ rw ((columns a m s).second, removed_map (λ (x : Held). x.message.bytes) i hs) refl)

    -- the counts
    pub live_changed : (h : Held) → length (put c h (held_by a m)) ≡ a.active
    live_changed h = (put_columns h).size

    pub live_removed : suc (length (without c (held_by a m))) ≡ a.active
    live_removed = omega (arith, without_columns.size, place_live)

    pub bits_removed : total (without c (held_by a m)) + bits_in_place p ≡ a.total_buffered_bits
    unfolding held_at
    bits_removed = total_there c (held_by a m) get_there (kept a m s).ordered ∙ total_is a m s

    pub bits_changed : (h : Held) → total (put c h (held_by a m)) + bits_in_place p ≡ a.total_buffered_bits + h.message.bits
    bits_changed h = omega (arith, total_put c (held_by a m) h, bits_removed)

    pub bytes_removed : length (bytes_all (without c (held_by a m))) + size_of p ≡ length (bytes_all (held_by a m))
    unfolding held_at
    bytes_removed =
        let g = good_held c (held_by a m) get_there (kept a m s).good in
        omega (arith, bytes_there c (held_by a m) get_there (kept a m s).ordered, g.sized)

    pub bytes_changed : (h : Held) → length (bytes_all (put c h (held_by a m))) + size_of p ≡ length (bytes_all (held_by a m)) + length h.message.bytes
    bytes_changed h = omega (arith, bytes_put c (held_by a m) h, bytes_removed)

  -- ## The channel holds nothing, and would stand at place i
  module _ (slot : slot_of c cs ≡ Err i) where
    pub place_free : i ≤ a.active
    place_free = free_live c i a.active m.channels (omega (arith, s)) slot

    pub get_none : get c (held_by a m) ≡ none
    unfolding state_of
    get_none = free_get c i cs slot hs (channels_long ∙ sym held_long) s.ascends

    pub without_same : without c (held_by a m) ≡ held_by a m
    unfolding state_of
    without_same = free_without c i cs slot hs (channels_long ∙ sym held_long) s.ascends

    new_columns : (h : Held) → Holds (put c h (held_by a m)) (inserted_at i c cs) (inserted_at i h hs) (suc a.active)
    unfolding state_of
    new_columns h = free_put_holds c i cs hs channels_long held_long s.ascends slot h

    pub lays_inserted : (h : Held) {channels arena : List ℕ} {places : List (List ℕ)} → channels ≡ laid (inserted_at i c cs) m.channels → places ≡ laid (inserted_at i (place_words h) ps) m.places
        → arena ≡ laid (joined (inserted_at i h.message.bytes (packed a m))) m.arena → held_memory channels places arena ≡ laid_in (put c h (held_by a m)) m
    lays_inserted h e f g =
        laid_is (new_columns h) e (f ∙ rw (inserted_map place_words i h hs, placed) refl) (g ∙ rw ((columns a m s).second, inserted_map (λ (x : Held). x.message.bytes) i h hs) refl)

    -- the counts
    pub live_inserted : (h : Held) → length (put c h (held_by a m)) ≡ suc a.active
    live_inserted h = (new_columns h).size

    pub bits_inserted : (h : Held) → total (put c h (held_by a m)) ≡ a.total_buffered_bits + h.message.bits
    bits_inserted h = total_put c (held_by a m) h ∙ rw (without_same, total_is a m s) refl

    pub bytes_inserted : (h : Held) → length (bytes_all (put c h (held_by a m))) ≡ length (bytes_all (held_by a m)) + length h.message.bytes
    bytes_inserted h = bytes_put c (held_by a m) h ∙ rw without_same refl
