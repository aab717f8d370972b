-- The accumulator's state in lent memory: a column of channels, ascending, beside it a place for each with its message's words, and
-- the messages' bytes in the same order, one after the other from the arena's first byte on.
use Rattle.std.specs.Prelude.{◌≡◌, ℕ, ◌+◌, List, [], ◌∷◌, map, eqb, take, drop, get_or}
use mir.Val.{bool_byte}
use Rattle.tables.specs.Columns.{laid}
use Rattle.tables.specs.Tables.{Table, channels, values, entries}
use Rattle.bunch_places.specs.Bytes.{bytes_of}
use Rattle.bunch_places.specs.Packed.{joined}
use Rattle.bunch_judging.specs.Held.{message_of, Held}
use Rattle.bunch_held.specs.declared.Accumulator.{Accumulator}
use Rattle.bunch_held.specs.declared.LentMemory.{LentMemory}

-- an accumulator of its limits, how many messages it holds, and how many bits
abbrev pub accumulator_of : ℕ → ℕ → ℕ → ℕ → Accumulator
accumulator_of maxActive maxBuffered active total =
    record { max_active = maxActive; max_buffered_bits = maxBuffered; active = active; total_buffered_bits = total }

pub record HeldMemory : Type 0 where
  pub channels : List ℕ
  pub places : List (List ℕ)
  pub arena : List ℕ

abbrev pub held_memory : List ℕ → List (List ℕ) → List ℕ → HeldMemory
held_memory c p a = record { channels = c; places = p; arena = a }

abbrev pub memory_of : LentMemory → HeldMemory
memory_of m = held_memory m.channels.now m.places.now m.arena.now

-- the same slices are lent, whatever they hold
pub record SameMemory (m n : LentMemory) : Type 0 where
  pub channels : n.channels.ghost_name ≡ m.channels.ghost_name
  pub places : n.places.ghost_name ≡ m.places.ghost_name
  pub arena : n.arena.ghost_name ≡ m.arena.ghost_name

abbrev pub State : Type 0
State = Table Held

-- A place: how many bits, whether finished, whether reliable, the sequence, and the header's words.
unfoldable pub place_words : Held → List ℕ
place_words h = h.message.bits ∷ bool_byte h.finished ∷ bool_byte h.reliable ∷ h.sequence ∷ h.message.header

abbrev pub bits_in_place : List ℕ → ℕ
bits_in_place p = get_or p 0 0

abbrev pub size_of : List ℕ → ℕ
size_of p = bytes_of (bits_in_place p)

unfoldable pub sum_of : (List ℕ → ℕ) → List (List ℕ) → ℕ
sum_of f [] = 0
sum_of f (p ∷ ps) = f p + sum_of f ps

-- all bits of some places, and the bytes that they take
abbrev pub bits_all : List (List ℕ) → ℕ
bits_all ps = sum_of bits_in_place ps

abbrev pub size_all : List (List ℕ) → ℕ
size_all ps = sum_of size_of ps

unfoldable pub held_at : List ℕ → List ℕ → Held
held_at p bytes =
    record {
      sequence = get_or p 3 0;
      reliable = eqb (get_or p 2 0) 1;
      finished = eqb (get_or p 1 0) 1;
      message = message_of (drop 4 p) (bits_in_place p) bytes;
    }

-- the messages of places in order, their bytes cut from the arena one after the other
unfoldable pub held_in : List (List ℕ) → List ℕ → List Held
held_in [] arena = []
held_in (p ∷ ps) arena = held_at p (take (size_of p) arena) ∷ held_in ps (drop (size_of p) arena)

-- the state that the first places hold
unfoldable pub state_of : ℕ → HeldMemory → State
state_of live m = entries (take live m.channels) (held_in (take live m.places) m.arena)

-- each message's bytes, and all of them as they stand in the arena
abbrev pub bytes_each : List Held → List (List ℕ)
bytes_each hs = map (λ (h : Held). h.message.bytes) hs

abbrev pub bytes_all : State → List ℕ
bytes_all s = joined (bytes_each (values s))

-- a state put first, and the rest as it was
unfoldable pub laid_in : State → HeldMemory → HeldMemory
laid_in s m =
    record {
      channels = laid (channels s) m.channels;
      places = laid (map place_words (values s)) m.places;
      arena = laid (bytes_all s) m.arena;
    }

-- all bits held
unfoldable pub total : State → ℕ
total [] = 0
total (e ∷ s) = e.1.message.bits + total s
