-- The bits of a bunch, as document 01 lists its fields, and which headers can be written.
use Rattle.std.specs.Prelude.{ℕ, Bool, true, false, not, ◌&&◌, ◌||◌, List, [], ◌∷◌, ◌++◌}
use Rattle.types.specs.declared.ChannelCloseReason.{ChannelCloseReason}
use Rattle.types.specs.declared.RawBunchHeader.{RawBunchHeader}
use Rattle.types.specs.Types.{close_reason_maximum, payload_maximum, reason_word}
use Rattle.types.specs.Continuing.{agree}
use Rattle.packet_header.specs.declared.BunchFields.{BunchFields}
use Rattle.writer_spelling.specs.Bits.{bits_from, only_if, packed_bits, serialized_bits}

abbrev pub dormancy : ChannelCloseReason → Bool
dormancy ChannelCloseReason.Destroyed = false
dormancy ChannelCloseReason.Dormancy = true

-- The fields that are written. "the count written is the payload's"; "Sequence, packet id, offset, completion, error fields and
-- the header's own count are neither written nor judged."
unfoldable pub fields_of : RawBunchHeader → ℕ → BunchFields
fields_of h count =
    record {
      b_open = h.b_open;
      b_close = h.b_close;
      close_reason = reason_word h.close_reason;
      b_is_replication_paused = h.b_is_replication_paused;
      b_reliable = h.b_reliable;
      ch_index = h.ch_index;
      b_has_package_map_exports = h.b_has_package_map_exports;
      b_has_must_be_mapped_guids = h.b_has_must_be_mapped_guids;
      b_partial = h.b_partial;
      b_partial_initial = h.b_partial_initial;
      b_partial_final = h.b_partial_final;
      payload_bit_count = count;
    }

-- "control is open or close"
abbrev pub control : BunchFields → Bool
control f = f.b_open || f.b_close

abbrev pub named : BunchFields → Bool
named f = f.b_reliable || f.b_open

abbrev pub flag_bit : Bool → List Bool
flag_bit b = b ∷ []

-- "control; if set, open, close; if close, a serialized reason …; paused; reliable; packed channel"
unfoldable pub front_bits : BunchFields → List Bool
front_bits f =
    flag_bit (control f)
    ++ (only_if (control f) (flag_bit f.b_open)
    ++ (only_if (control f) (flag_bit f.b_close)
    ++ (only_if f.b_close (serialized_bits close_reason_maximum f.close_reason)
    ++ (flag_bit f.b_is_replication_paused
    ++ (flag_bit f.b_reliable
    ++ packed_bits f.ch_index)))))

-- "exports; must-be-mapped; partial; an ignored bit; if partial, initial, final; if reliable or open, an ignored bit and an ignored
-- packed number; payload count"; "zeros for ignored parts"
unfoldable pub back_bits : BunchFields → List Bool
back_bits f =
    flag_bit f.b_has_package_map_exports
    ++ (flag_bit f.b_has_must_be_mapped_guids
    ++ (flag_bit f.b_partial
    ++ (flag_bit false
    ++ (only_if f.b_partial (flag_bit f.b_partial_initial)
    ++ (only_if f.b_partial (flag_bit f.b_partial_final)
    ++ (only_if (named f) (flag_bit false)
    ++ (only_if (named f) (packed_bits 0)
    ++ serialized_bits payload_maximum f.payload_bit_count)))))))

-- up to the channel, and after it
unfoldable pub header_bits : BunchFields → List Bool
header_bits f = front_bits f ++ back_bits f

-- a header with the first `count` bits of the payload's bytes
unfoldable pub bunch_bits : RawBunchHeader → List ℕ → ℕ → List Bool
bunch_bits h payload count = header_bits (fields_of h count) ++ bits_from payload 0 count

-- What is not "Refusal 16: initial or final without partial; a reason other than Destroyed without close; dormant unequal to
-- close with Dormancy."
unfoldable pub writable : RawBunchHeader → Bool
writable h =
    not ((h.b_partial_initial || h.b_partial_final) && not h.b_partial)
    && not (dormancy h.close_reason && not h.b_close)
    && agree h.b_dormant (h.b_close && dormancy h.close_reason)
