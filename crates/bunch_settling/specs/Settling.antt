-- What the edits of sound memory ask, and what they leave.
use Rattle.std.specs.Prelude.{ℕ, ◌+◌, ◌≤◌, ◌<◌, ◌≡◌, List, [], length, take, get_or}
use Rattle.types.specs.Types.{longest_payload, most_buffered_bits}
use Rattle.std.specs.Prelude.{Ok, Err}
use Rattle.tables.specs.Tables.{slot_of}
use Rattle.bunch_places.specs.Bytes.{bytes_of}
use Rattle.bunch_judging.specs.Held.{Held}
use Rattle.bunch_held.specs.declared.Accumulator.{Accumulator}
use Rattle.bunch_held.specs.Memory.{HeldMemory, held_memory, State, laid_in, accumulator_of}
use Rattle.bunch_held.specs.Memory.{place_words, bits_in_place, size_of, size_all, bytes_all}
use Rattle.bunch_held.specs.State.{Stands}
use Rattle.bunch_held.specs.Calls.{held_by, counting}
use Rattle.bunch_settling.specs.declared.inner.messages.Settled.{Settled}
use Rattle.bunch_settling.specs.declared.inner.messages.SettledMemory.{SettledMemory}

abbrev pub settled_memory : SettledMemory → HeldMemory
settled_memory s = held_memory s.channels.now s.places.now s.arena.now

-- the same slices are lent, whatever they hold
pub record SameSlices (s t : SettledMemory) : Type 0 where
  pub channels : t.channels.ghost_name ≡ s.channels.ghost_name
  pub places : t.places.ghost_name ≡ s.places.ghost_name
  pub arena : t.arena.ghost_name ≡ s.arena.ghost_name

-- what is counted beside the memory
abbrev pub counts_of : SettledMemory → Settled
counts_of s = record { accumulator = s.accumulator; used = s.used }

-- sound memory, and how many bytes of its arena are used
pub record Using (a : Accumulator) (m : HeldMemory) (used : ℕ) : Type 0 where
  pub stands : Stands a m
  pub used_is : used ≡ length (bytes_all (held_by a m))

-- the channel's message stands at place i, and its bytes from `start` on
pub record Occupied (a : Accumulator) (m : HeldMemory) (used c i start : ℕ) : Type 0 where
  pub sound : Using a m used
  pub slot : slot_of c (take a.active m.channels) ≡ Ok i
  pub start_is : start ≡ size_all (take i m.places)

-- the channel holds nothing; its message would stand at place i, and its bytes from `start` on
pub record Vacant (a : Accumulator) (m : HeldMemory) (used c i start : ℕ) : Type 0 where
  pub sound : Using a m used
  pub slot : slot_of c (take a.active m.channels) ≡ Err i
  pub start_is : start ≡ size_all (take i m.places)

-- room for what a message's bytes become
pub record Bytes (a : Accumulator) (arena : List ℕ) (used start before keep bits : ℕ) (payload : List ℕ) (after : ℕ) : Type 0 where
  pub within : start + bytes_of before ≤ used
  pub used_fits : used ≤ length arena
  pub kept : keep ≤ bytes_of before
  pub enough : bytes_of bits ≤ length payload
  pub short : bits ≤ longest_payload
  pub counted : before ≤ a.total_buffered_bits
  pub total_small : a.total_buffered_bits ≤ most_buffered_bits
  pub few : after ≤ most_buffered_bits
  pub room : used + keep + bytes_of bits ≤ length arena + bytes_of before

-- of the message's bytes the first `keep` stay, the bits of the payload follow, and the place becomes p
pub record Changes (a : Accumulator) (m : HeldMemory) (used c i start keep : ℕ) (p : List ℕ) (bits : ℕ) (payload : List ℕ) : Type 0 where
  pub occupied : Occupied a m used c i start
  pub kept : keep ≤ size_of (get_or m.places i [])
  pub enough : bytes_of bits ≤ length payload
  pub short : bits ≤ longest_payload
  pub few : bits_in_place p ≤ most_buffered_bits
  pub room : used + keep + bytes_of bits ≤ length m.arena + size_of (get_or m.places i [])

-- a message whose bits are the payload's starts with place p
pub record Starts (a : Accumulator) (m : HeldMemory) (used c i start : ℕ) (p payload : List ℕ) : Type 0 where
  pub vacant : Vacant a m used c i start
  pub enough : size_of p ≤ length payload
  pub few : bits_in_place p ≤ most_buffered_bits
  pub place_room : a.active < a.max_active
  pub room : used + size_of p ≤ length m.arena

-- a message with these words and bytes
pub record Is (h : Held) (p bytes : List ℕ) : Type 0 where
  pub place_is : place_words h ≡ p
  pub bytes_are : h.message.bytes ≡ bytes

abbrev pub settled : Accumulator → ℕ → ℕ → ℕ → Settled
settled a active total used =
    record { accumulator = accumulator_of a.max_active a.max_buffered_bits active total; used = used }

-- the state s laid in memory m, with its counts
pub record Lays (a : Accumulator) (m : HeldMemory) (s : State) (r : Settled) (after : HeldMemory) : Type 0 where
  pub memory_is : after ≡ laid_in s m
  pub counts : r.accumulator ≡ counting a s
  pub used_is : r.used ≡ length (bytes_all s)
