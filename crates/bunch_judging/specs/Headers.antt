-- A fragment's header, with the tracking flags that judging it sets.
use Rattle.std.specs.Prelude.{Bool, true, cond, Option, Some}
use Rattle.types.specs.declared.PartialSequenceKind.{PartialSequenceKind}
use Rattle.types.specs.declared.RawBunchHeader.{RawBunchHeader}
use Rattle.tables.specs.Tables.{Found}
use Rattle.bunch_judging.specs.Held.{Held}
use Rattle.bunch_judging.specs.Fates.{overlaps}

-- a header with other tracking flags
unfoldable pub flagged : Bool → Option PartialSequenceKind → Bool → RawBunchHeader → RawBunchHeader
flagged error kind completed h =
    record {
      packet_id = h.packet_id;
      ch_index = h.ch_index;
      b_open = h.b_open;
      b_close = h.b_close;
      b_dormant = h.b_dormant;
      b_is_replication_paused = h.b_is_replication_paused;
      b_reliable = h.b_reliable;
      b_partial = h.b_partial;
      b_partial_initial = h.b_partial_initial;
      b_partial_final = h.b_partial_final;
      b_has_package_map_exports = h.b_has_package_map_exports;
      b_has_must_be_mapped_guids = h.b_has_must_be_mapped_guids;
      ch_sequence = h.ch_sequence;
      close_reason = h.close_reason;
      payload_bit_count = h.payload_bit_count;
      payload_bit_offset = h.payload_bit_offset;
      has_partial_error = error;
      partial_error_kind = kind;
      is_partial_completed = completed;
      has_channel_limit_error = h.has_channel_limit_error;
    }

abbrev pub erring : Option PartialSequenceKind → RawBunchHeader → RawBunchHeader
erring kind h = flagged true kind h.is_partial_completed h

-- "error flag and overlap kind set where it displaced an unfinished message": the header after the sequence test
unfoldable pub after_test : Found Held → RawBunchHeader → RawBunchHeader
after_test m h = cond (overlaps m h.b_partial_initial) (erring (Some PartialSequenceKind.OverlappingInitial) h) h
