-- A writer's answer as three words, and the header that a call is handed in its parts.
use Rattle.std.specs.Prelude.{ℕ, Bool, false, cond, List, [], ◌∷◌, pos, get_or, None}
use Rattle.bitio_window.specs.Parse.{Result, value, refusal}
use Rattle.types.specs.declared.ChannelCloseReason.{ChannelCloseReason}
use Rattle.types.specs.declared.RawBunchHeader.{RawBunchHeader}

unfoldable pub written_words : Result ℕ → List ℕ
written_words (value bit) = 0 ∷ bit ∷ 0 ∷ []
written_words (refusal r) = r.number ∷ get_or r.returns 0 0 ∷ get_or r.returns 1 0 ∷ []

abbrev pub reason_if : Bool → ChannelCloseReason
reason_if dormancy = cond dormancy ChannelCloseReason.Dormancy ChannelCloseReason.Destroyed

-- "Sequence, packet id, offset, completion, error fields and the header's own count are neither written nor judged."
unfoldable pub written_header : ℕ → Bool → Bool → Bool → Bool → Bool → Bool → Bool → Bool → Bool → Bool → Bool → RawBunchHeader
written_header channel opens closes dormant dormancy paused reliable partial initial final exports mapped =
    record {
      packet_id = pos 0;
      ch_index = channel;
      b_open = opens;
      b_close = closes;
      b_dormant = dormant;
      b_is_replication_paused = paused;
      b_reliable = reliable;
      b_partial = partial;
      b_partial_initial = initial;
      b_partial_final = final;
      b_has_package_map_exports = exports;
      b_has_must_be_mapped_guids = mapped;
      ch_sequence = pos 0;
      close_reason = reason_if dormancy;
      payload_bit_count = 0;
      payload_bit_offset = 0;
      has_partial_error = false;
      partial_error_kind = None;
      is_partial_completed = false;
      has_channel_limit_error = false;
    }
