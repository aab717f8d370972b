-- Document 01's example of a listing, run through all the definitions.
use Rattle.std.proofs.Common.{◌≡◌, ℕ, List, [], ◌∷◌, refl}
use lib.Count.{count_leading_zeros}
use Rattle.bitio_bits.specs.Bits.{bit_at, bits_at}
use Rattle.bitio_bits.specs.Floats.{signed}
use Rattle.bitio_window.specs.Parse.{◌>>=◌, ◌>>◌, give, refuse, refuse_if, read_if, place}
use Rattle.bitio_window.specs.Reads.{need, bits_taken, bits, bit}
use Rattle.bitio_window.specs.Numbers.{packed_from, packed, log2, serialized}
use Rattle.tables.specs.Tables.{get, put, without}
use Rattle.types.specs.Types.{reason_of}
use Rattle.packet_header.specs.Header.{fields}
use Rattle.types.specs.Continuing.{following, continues}
use Rattle.packet_tracking.specs.Sequences.{reliably, unreliable, numbered}
use Rattle.packet_tracking.specs.Partials.{judged, tracking}
use Rattle.packet_reading.specs.Packet.{data_bits, whole, next_bunch}
use Rattle.packet_log.specs.Log.{version_of, entry_at, log_from}
use Rattle.log_lines.specs.Decimal.{digits_from, decimal, decimal_signed}
use Rattle.log_lines.specs.Lines.{bunch_line, packet_line}
use Rattle.log_telling.specs.Listed.{listed_from}
use Rattle.listing.specs.Listing.{listing}

-- `01 0005 00000007 300004A034 0006 00000008 04A001000001`
abbrev log : List ℕ
log =
    0x01 ∷ 0x00 ∷ 0x05 ∷ 0x00 ∷ 0x00 ∷ 0x00 ∷ 0x07 ∷ 0x30 ∷ 0x00 ∷ 0x04 ∷ 0xA0 ∷ 0x34
    ∷ 0x00 ∷ 0x06 ∷ 0x00 ∷ 0x00 ∷ 0x00 ∷ 0x08 ∷ 0x04 ∷ 0xA0 ∷ 0x01 ∷ 0x00 ∷ 0x00 ∷ 0x01 ∷ []

-- "B 7 3 0 ---- 8 29 -", "P 7 1 0 0 0", "B 8 0 1 RPIF 0 40 K", "P 8 1 0 0 0"
pub four_lines : listing log
    ≡ 66 ∷ 32 ∷ 55 ∷ 32 ∷ 51 ∷ 32 ∷ 48 ∷ 32 ∷ 45 ∷ 45 ∷ 45 ∷ 45 ∷ 32 ∷ 56 ∷ 32 ∷ 50 ∷ 57 ∷ 32 ∷ 45 ∷ 10
    ∷ 80 ∷ 32 ∷ 55 ∷ 32 ∷ 49 ∷ 32 ∷ 48 ∷ 32 ∷ 48 ∷ 32 ∷ 48 ∷ 10
    ∷ 66 ∷ 32 ∷ 56 ∷ 32 ∷ 48 ∷ 32 ∷ 49 ∷ 32 ∷ 82 ∷ 80 ∷ 73 ∷ 70 ∷ 32 ∷ 48 ∷ 32 ∷ 52 ∷ 48 ∷ 32 ∷ 75 ∷ 10
    ∷ 80 ∷ 32 ∷ 56 ∷ 32 ∷ 49 ∷ 32 ∷ 48 ∷ 32 ∷ 48 ∷ 32 ∷ 48 ∷ 10 ∷ []
unfolding count_leading_zeros bit_at bits_at signed ◌>>=◌ ◌>>◌ give refuse refuse_if read_if place need bits_taken bits bit packed_from packed log2 serialized reason_of fields following reliably unreliable numbered continues judged tracking data_bits whole next_bunch digits_from decimal decimal_signed bunch_line packet_line version_of entry_at log_from listed_from get put without
four_lines = refl

-- "empty input gives X 0": "X 0"
pub no_input : listing [] ≡ 88 ∷ 32 ∷ 48 ∷ 10 ∷ []
unfolding version_of digits_from decimal
no_input = refl
