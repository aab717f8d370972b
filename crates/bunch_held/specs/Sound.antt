-- "Sound state".
use Rattle.std.specs.Prelude.{ℕ, ◌+◌, ◌*◌, ◌-◌, ◌/◌, ◌%◌, ◌^◌, Bool, ◌&&◌, ◌||◌, List, [], ◌∷◌, eqb, leb, ltb, length, take, drop, get_or}
use Rattle.types.specs.Types.{most_active_partials, most_buffered_bits}
use Rattle.tables.specs.Columns.{ascending}
use Rattle.bunch_held.specs.declared.Accumulator.{Accumulator}
use Rattle.bunch_held.specs.Memory.{HeldMemory, bits_in_place, size_of}

-- "active 0 to 4,096; buffered bits 0 to 536,870,912; 8 x arena bytes >= buffered bits + 7 x active; the lent table has at least
-- active places"
abbrev pub fitting : ℕ → ℕ → ℕ → ℕ → ℕ → Bool
fitting active buffered channels places arena =
    leb active most_active_partials && leb buffered most_buffered_bits && leb active channels && leb active places
    && leb (buffered + 7 * active) (8 * arena)

unfoldable pub fit : ℕ → ℕ → HeldMemory → Bool
fit active buffered m = fitting active buffered (length m.channels) (length m.places) (length m.arena)

-- "spare bits zero": of the last byte, where there are any
abbrev pub spare_zero : ℕ → List ℕ → Bool
spare_zero bits bytes = eqb (get_or bytes (bits / 8) 0 / 2 ^ (bits % 8)) 0

-- words that a call can have left: two flags, a sequence, "unfinished messages a multiple of 8 bits"
abbrev pub words_sound : List ℕ → Bool
words_sound p =
    eqb (length p) 24 && leb (get_or p 1 0) 1 && leb (get_or p 2 0) 1 && ltb (get_or p 3 0) (2 ^ 32)
    && (eqb (get_or p 1 0) 1 || eqb (bits_in_place p % 8) 0)

-- a place with its message's bytes: "spare bits zero"
unfoldable pub place_sound : List ℕ → List ℕ → Bool
place_sound p bytes = words_sound p && spare_zero (bits_in_place p) bytes

-- "total equal to the sum of the held bits": `left` is what the places from here on must have. "held bytes inside the arena and
-- apart from each other" follows: they stand one after the other, and the arena has room for all bits within the limits.
unfoldable pub places_sound : List (List ℕ) → List ℕ → ℕ → Bool
places_sound [] arena left = eqb left 0
places_sound (p ∷ ps) arena left =
    leb (bits_in_place p) left
    && place_sound p (take (size_of p) arena)
    && places_sound ps (drop (size_of p) arena) (left - bits_in_place p)

-- "the rules of opening hold, no channel twice, live count and total within limits, …"
unfoldable pub memory_sound : Accumulator → HeldMemory → Bool
memory_sound a m =
    (fit a.max_active a.max_buffered_bits m && leb a.active a.max_active
    && leb a.total_buffered_bits a.max_buffered_bits)
    && (ascending (take a.active m.channels) && places_sound (take a.active m.places) m.arena a.total_buffered_bits)
