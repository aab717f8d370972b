-- Document 01's refusals: a number, and what it returns.
use Rattle.std.specs.Prelude.{ℕ, List, [], ◌∷◌, ◌++◌}
use Rattle.bitio_window.specs.declared.Window.{Window}
use Rattle.bitio_window.specs.declared.Place.{Place}
use Rattle.bitio_window.specs.declared.BitError.{BitError}
use Rattle.bitio_window.specs.declared.BitError.TheVariants.{Eof, MalformedIntPacked, IntPackedOverflow}
use Rattle.bitio_window.specs.declared.BitError.TheVariants.{InvalidSerializedIntMax, InvalidBitLength, InvalidWidth}
use Rattle.bitio_window.specs.declared.BitError.TheVariants.{DataTooLong}

pub record Refusal : Type 0 where
  pub number : ℕ
  pub returns : List ℕ

-- the position that a refusal carries, and how it is returned
abbrev pub place_of : Window → Place
place_of w = record { at = w.position }

abbrev pub placed : Place → List ℕ
placed p = p.at.0 ∷ []

-- "1 too few bits: position, length, bits requested"
unfoldable pub too_few_bits : Place → ℕ → ℕ → Refusal
too_few_bits p length requested = record { number = 1; returns = placed p ++ (length ∷ requested ∷ []) }

-- "2 fifth packed byte continues: start position"
unfoldable pub endless : Place → Refusal
endless p = record { number = 2; returns = placed p }

-- "3 fifth chunk above 15: start position"
unfoldable pub too_large : Place → Refusal
too_large p = record { number = 3; returns = placed p }

-- "4 serialized maximum 0: the maximum"
unfoldable pub zero_maximum : ℕ → Refusal
zero_maximum m = record { number = 4; returns = m ∷ [] }

-- "5 window longer than its data, or copy target short: requested, available bits"
unfoldable pub beyond : ℕ → ℕ → Refusal
beyond requested available = record { number = 5; returns = requested ∷ available ∷ [] }

-- "6+ width above 64: width"
unfoldable pub too_wide : ℕ → Refusal
too_wide width = record { number = 6; returns = width ∷ [] }

-- "7+ data above 67,108,864 bytes: length"
unfoldable pub too_long : ℕ → Refusal
too_long length = record { number = 7; returns = length ∷ [] }

-- "8+ packet above 65,535 bytes: length"
unfoldable pub packet_too_long : ℕ → Refusal
packet_too_long length = record { number = 8; returns = length ∷ [] }

-- "9+ opening limits or lent room unfit: nothing"
unfoldable pub unfit : Refusal
unfit = record { number = 9; returns = [] }

-- "10+ lent state not sound: nothing"
unfoldable pub unsound : Refusal
unsound = record { number = 10; returns = [] }

-- "11+ payload above 16,383 bits: count"
unfoldable pub payload_too_long : ℕ → Refusal
payload_too_long count = record { number = 11; returns = count ∷ [] }

-- "12+ payload data shorter than its bits: count"
unfoldable pub payload_short : ℕ → Refusal
payload_short count = record { number = 12; returns = count ∷ [] }

-- "13+ output bytes too few: bytes needed"
unfoldable pub output_short : ℕ → Refusal
output_short bytes = record { number = 13; returns = bytes ∷ [] }

-- "14+ record list full: cursor at that record's start; draining, places needed"
unfoldable pub list_full : Place → Refusal
list_full p = record { number = 14; returns = placed p }

unfoldable pub too_few_places : ℕ → Refusal
too_few_places places = record { number = 14; returns = places ∷ [] }

-- "15 function count 0: nothing"
unfoldable pub unresolved : Refusal
unresolved = record { number = 15; returns = [] }

-- "16+ header can't be written: nothing"
unfoldable pub unwritable : Refusal
unwritable = record { number = 16; returns = [] }

-- "17+ no room for the bunch or end mark: the packet's bits with it"
unfoldable pub no_room : ℕ → Refusal
no_room bits = record { number = 17; returns = bits ∷ [] }

-- the paper's number and values for each case of the code's
abbrev pub paper : BitError → Refusal
paper (Eof p l r) = too_few_bits p l r
paper (MalformedIntPacked p) = endless p
paper (IntPackedOverflow p) = too_large p
paper (InvalidSerializedIntMax m) = zero_maximum m
paper (InvalidBitLength r a) = beyond r a
paper (InvalidWidth w) = too_wide w
paper (DataTooLong l) = too_long l
