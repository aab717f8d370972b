-- A bunch's header as twenty words, and the header that any words say.
use Rattle.std.specs.Prelude.{Bool, not, cond, List, [], ◌∷◌, ℕ, ◌%◌, ◌^◌, eqb, get_or, Option, Some, None}
use Rattle.std.specs.Int.{w32}
use mir.Val.{of_z, bool_byte}
use Rattle.bitio_bits.specs.Floats.{signed}
use Rattle.types.specs.Types.{reason_word, reason_of}
use Rattle.types.specs.declared.PartialSequenceKind.{PartialSequenceKind}
use Rattle.types.specs.declared.RawBunchHeader.{RawBunchHeader}

abbrev pub kind_word : Option PartialSequenceKind → ℕ
kind_word None = 0
kind_word (Some PartialSequenceKind.MissingInitial) = 1
kind_word (Some PartialSequenceKind.OverlappingInitial) = 2
kind_word (Some PartialSequenceKind.MismatchedContinuation) = 3
kind_word (Some PartialSequenceKind.NonByteAlignedFragment) = 4

-- the twenty fields in the header's order, signed ones as their two's complement of 32 bits
abbrev pub header_words : RawBunchHeader → List ℕ
header_words h =
    of_z w32 h.packet_id
    ∷ h.ch_index
    ∷ bool_byte h.b_open
    ∷ bool_byte h.b_close
    ∷ bool_byte h.b_dormant
    ∷ bool_byte h.b_is_replication_paused
    ∷ bool_byte h.b_reliable
    ∷ bool_byte h.b_partial
    ∷ bool_byte h.b_partial_initial
    ∷ bool_byte h.b_partial_final
    ∷ bool_byte h.b_has_package_map_exports
    ∷ bool_byte h.b_has_must_be_mapped_guids
    ∷ of_z w32 h.ch_sequence
    ∷ reason_word h.close_reason
    ∷ h.payload_bit_count
    ∷ h.payload_bit_offset
    ∷ bool_byte h.has_partial_error
    ∷ kind_word h.partial_error_kind
    ∷ bool_byte h.is_partial_completed
    ∷ bool_byte h.has_channel_limit_error
    ∷ []

-- a word that is no kind's is none
unfoldable pub kind_of : ℕ → Option PartialSequenceKind
kind_of w =
    cond (eqb w 1) (Some PartialSequenceKind.MissingInitial)
    (cond (eqb w 2) (Some PartialSequenceKind.OverlappingInitial)
    (cond (eqb w 3) (Some PartialSequenceKind.MismatchedContinuation)
    (cond (eqb w 4) (Some PartialSequenceKind.NonByteAlignedFragment) None)))

-- a flag is any word but 0
abbrev pub flag_at : List ℕ → ℕ → Bool
flag_at w i = not (eqb (get_or w i 0) 0)

-- a field of 32 bits
abbrev pub low : List ℕ → ℕ → ℕ
low w i = get_or w i 0 % 2 ^ 32

-- word by word, whatever the words are
unfoldable pub header_from : List ℕ → RawBunchHeader
header_from w =
    record {
      packet_id = signed (low w 0);
      ch_index = low w 1;
      b_open = flag_at w 2;
      b_close = flag_at w 3;
      b_dormant = flag_at w 4;
      b_is_replication_paused = flag_at w 5;
      b_reliable = flag_at w 6;
      b_partial = flag_at w 7;
      b_partial_initial = flag_at w 8;
      b_partial_final = flag_at w 9;
      b_has_package_map_exports = flag_at w 10;
      b_has_must_be_mapped_guids = flag_at w 11;
      ch_sequence = signed (low w 12);
      close_reason = reason_of (get_or w 13 0);
      payload_bit_count = low w 14;
      payload_bit_offset = get_or w 15 0;
      has_partial_error = flag_at w 16;
      partial_error_kind = kind_of (get_or w 17 0);
      is_partial_completed = flag_at w 18;
      has_channel_limit_error = flag_at w 19;
    }
