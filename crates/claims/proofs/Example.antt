-- Document 01's example, written: its two packets, in lent bytes that were all set. So the round trip is not of nothing.
use Prim.Native.Nat.{ℕ}
use mathlib.Core.Path.{◌≡◌, refl}
use mathlib.Core.Bool.{Bool, true, false}
use mathlib.Core.List.{List, [], ◌∷◌}
use lib.Count.{count_leading_zeros}
use lib.IntN.{pos}
use Rattle.std.specs.Prelude.{None}
use Rattle.bitio_bits.specs.Bits.{bit_at}
use Rattle.bitio_window.specs.Parse.{value}
use Rattle.bitio_window.specs.Numbers.{log2}
use Rattle.types.specs.declared.ChannelCloseReason.{ChannelCloseReason}
use Rattle.types.specs.declared.RawBunchHeader.{RawBunchHeader}
use Rattle.writer_spelling.specs.Bits.{number_bits, bits_from, only_if, packed_up_to, packed_bits, serialized_bits, put_bit, put_bits}
use Rattle.writer_spelling.specs.Header.{fields_of, front_bits, back_bits, header_bits, bunch_bits, writable}
use Rattle.writer.specs.Answers.{appended, write_bunch, close_packet}
use Rattle.claims.specs.RoundTrip.{writes}

-- a header of a channel, with R P I F or none of them
abbrev header : ℕ → Bool → RawBunchHeader
header channel set =
    record {
      packet_id = pos 0;
      ch_index = channel;
      b_open = false;
      b_close = false;
      b_dormant = false;
      b_is_replication_paused = false;
      b_reliable = set;
      b_partial = set;
      b_partial_initial = set;
      b_partial_final = set;
      b_has_package_map_exports = false;
      b_has_must_be_mapped_guids = false;
      ch_sequence = pos 0;
      close_reason = ChannelCloseReason.Destroyed;
      payload_bit_count = 0;
      payload_bit_offset = 0;
      has_partial_error = false;
      partial_error_kind = None;
      is_partial_completed = false;
      has_channel_limit_error = false;
    }

abbrev all_set : List ℕ
all_set = 255 ∷ 255 ∷ 255 ∷ 255 ∷ 255 ∷ 255 ∷ []

-- 300004A034, and the sixth byte as it was
pub first : writes (record { header = header 3 false; payload = 165 ∷ []; count = 8 } ∷ []) all_set 0 ≡ record { answer = value 40; packet = 48 ∷ 0 ∷ 4 ∷ 160 ∷ 52 ∷ 255 ∷ [] }
unfolding writes write_bunch close_packet appended writable bunch_bits header_bits front_bits back_bits fields_of packed_bits packed_up_to serialized_bits only_if number_bits bits_from bit_at put_bits put_bit log2 count_leading_zeros
first = refl

-- 04A001000001
pub second : writes (record { header = header 0 true; payload = []; count = 0 } ∷ []) all_set 0 ≡ record { answer = value 48; packet = 4 ∷ 160 ∷ 1 ∷ 0 ∷ 0 ∷ 1 ∷ [] }
unfolding writes write_bunch close_packet appended writable bunch_bits header_bits front_bits back_bits fields_of packed_bits packed_up_to serialized_bits only_if number_bits bits_from bit_at put_bits put_bit log2 count_leading_zeros
second = refl
