-- What the test of the lent memory leaves true, which the calls' inner functions require; and what a state must be to be laid in it.
use Rattle.std.specs.Prelude.{◌+◌, ◌*◌, ◌%◌, ◌^◌, ◌≤◌, ◌<◌, ◌≡◌, true, false, List, [], ◌∷◌, length, take}
use Rattle.types.specs.Types.{most_active_partials, most_buffered_bits}
use Rattle.tables.specs.Columns.{ascending}
use Rattle.tables.specs.Tables.{channels, values}
use Rattle.bunch_places.specs.Bytes.{bytes_of}
use Rattle.bunch_judging.specs.Held.{Held}
use Rattle.bunch_held.specs.declared.Accumulator.{Accumulator}
use Rattle.bunch_held.specs.Memory.{HeldMemory, State, total}
use Rattle.bunch_held.specs.Sound.{spare_zero, places_sound}

-- the rules of opening
pub record OpeningRules (a : Accumulator) (m : HeldMemory) : Type 0 where
  pub few : a.max_active ≤ most_active_partials
  pub bounded : a.max_buffered_bits ≤ most_buffered_bits
  pub channels_room : a.max_active ≤ length m.channels
  pub places_room : a.max_active ≤ length m.places
  pub arena_room : a.max_buffered_bits + 7 * a.max_active ≤ 8 * length m.arena

-- sound memory
pub record Stands (a : Accumulator) (m : HeldMemory) : Type 0 where
  pub opens : OpeningRules a m
  pub live_fits : a.active ≤ a.max_active
  pub total_fits : a.total_buffered_bits ≤ a.max_buffered_bits
  pub ascends : ascending (take a.active m.channels) ≡ true
  pub places_are_sound : places_sound (take a.active m.places) m.arena a.total_buffered_bits ≡ true

-- a message that a place and the arena can hold
pub record Good (h : Held) : Type 0 where
  pub header_words : length h.message.header ≡ 20
  pub sequence_fits : h.sequence < 2 ^ 32
  pub sized : length h.message.bytes ≡ bytes_of h.message.bits
  pub spare : spare_zero h.message.bits h.message.bytes ≡ true
  pub aligned : h.finished ≡ false → h.message.bits % 8 ≡ 0

unfoldable pub AllGood : List Held → Type 0
AllGood [] = Unit {0}
AllGood (h ∷ hs) = Good h × AllGood hs

-- a state within the limits
pub record Kept (a : Accumulator) (s : State) : Type 0 where
  pub ordered : ascending (channels s) ≡ true
  pub good : AllGood (values s)
  pub within : length s ≤ a.max_active
  pub total_within : total s ≤ a.max_buffered_bits
