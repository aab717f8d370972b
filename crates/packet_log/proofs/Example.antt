-- Document 01's example of a log, read by the definitions.
use mathlib.Core.Path.{◌≡◌, refl}
use mathlib.Core.List.{List, [], ◌∷◌}
use Prim.Native.Nat.{ℕ}
use lib.IntN.{pos}
use Rattle.bitio_bits.specs.Floats.{signed}
use Rattle.packet_log.specs.Log.{version_of, entry_at, whole, cut, ends, log_from, log_of}

-- `01 0005 00000007 300004A034 0006 00000008 04A001000001`
example : List ℕ
example =
    0x01 ∷ 0x00 ∷ 0x05 ∷ 0x00 ∷ 0x00 ∷ 0x00 ∷ 0x07 ∷ 0x30 ∷ 0x00 ∷ 0x04 ∷ 0xA0 ∷ 0x34
    ∷ 0x00 ∷ 0x06 ∷ 0x00 ∷ 0x00 ∷ 0x00 ∷ 0x08 ∷ 0x04 ∷ 0xA0 ∷ 0x01 ∷ 0x00 ∷ 0x00 ∷ 0x01 ∷ []

two_packets : log_of example
    ≡ record {
      packets = record { id = pos 7; bytes = 0x30 ∷ 0x00 ∷ 0x04 ∷ 0xA0 ∷ 0x34 ∷ [] } ∷ record { id = pos 8; bytes = 0x04 ∷ 0xA0 ∷ 0x01 ∷ 0x00 ∷ 0x00 ∷ 0x01 ∷ [] } ∷ [];
      ending = whole;
    }
unfolding example signed version_of entry_at log_from
two_packets = refl

-- "empty input gives X 0"; the version byte alone is a whole log
empty : log_of [] ≡ ends (cut 0)
unfolding version_of
empty = refl

version_alone : log_of (1 ∷ []) ≡ ends whole
unfolding version_of entry_at log_from
version_alone = refl
