-- Field by field; the signed fields, the reason and the kind by their own functions.
use mathlib.Core.Path.{◌≡◌, ◌∙◌}
use mathlib.Core.List.{List}
use Prim.Native.Nat.{ℕ}
use lib.IntN.{ℤ}
use lib.ListN.{get_or}
use Rattle.std.specs.Prelude.{Option}
use mir.Syntax.{w32}
use mir.ValLaws.{to_z-of_z}
use Rattle.bitio_bits.specs.Floats.{signed}
use Rattle.types.specs.Types.{reason_of}
use Rattle.types.specs.declared.ChannelCloseReason.{ChannelCloseReason}
use Rattle.types.specs.declared.PartialSequenceKind.{PartialSequenceKind}
use Rattle.types.specs.declared.RawBunchHeader.{RawBunchHeader}
use Rattle.words.specs.Words.{flag_at, low, kind_of, header_from}
use Rattle.words.proofs.header_of.Goals as goal

-- the fields that have functions of their own, as these answer them
of_words : (w : List ℕ) {id sequence : ℤ} {reason : ChannelCloseReason} {kind : Option PartialSequenceKind}
    → id ≡ signed (low w 0) → sequence ≡ signed (low w 12) → reason ≡ reason_of (get_or w 13 0) → kind ≡ kind_of (get_or w 17 0)
    → ◌≡◌ {A = RawBunchHeader}
    (record {
      packet_id = id;
      ch_index = low w 1;
      b_open = flag_at w 2;
      b_close = flag_at w 3;
      b_dormant = flag_at w 4;
      b_is_replication_paused = flag_at w 5;
      b_reliable = flag_at w 6;
      b_partial = flag_at w 7;
      b_partial_initial = flag_at w 8;
      b_partial_final = flag_at w 9;
      b_has_package_map_exports = flag_at w 10;
      b_has_must_be_mapped_guids = flag_at w 11;
      ch_sequence = sequence;
      close_reason = reason;
      payload_bit_count = low w 14;
      payload_bit_offset = get_or w 15 0;
      has_partial_error = flag_at w 16;
      partial_error_kind = kind;
      is_partial_completed = flag_at w 18;
      has_channel_limit_error = flag_at w 19;
    })
    (header_from w)
unfolding header_from
of_words w p q r s = rw (p, q, r, s)

pub returns : goal.returns
returns c =
    let id = c.of_word-packet_id in
    let sequence = c.of_word-ch_sequence in
    of_words _ (to_z-of_z w32 id.result (record { sfits = id.type_inv }) ∙ id.ensures) (to_z-of_z w32 sequence.result (record { sfits = sequence.type_inv }) ∙ sequence.ensures) c.from_raw-close_reason.ensures c.kind_of-partial_error_kind.ensures
