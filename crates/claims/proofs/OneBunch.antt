-- One reading call, where a bunch's bits stand at the cursor: the fields read are those written, and the next cursor is past
-- the payload.
use Prim.Native.Nat.{ℕ, ◌+◌, ◌^◌, ◌≤◌, ◌<◌}
use mathlib.Core.Path.{◌≡◌, refl, sym, ap, ◌∙◌}
use mathlib.Core.Bool.{Bool, true}
use mathlib.Core.List.{List}
use native.Mathlib.Nat.{zero-add}
use native.Mathlib.Omega.{arith}
use lib.IntN.{ℤ}
use lib.ListN.{length}
use mir.Syntax.{w32}
use mir.Val.{of_z}
use Rattle.bitio_window.specs.Parse.{value}
use Rattle.types.specs.declared.RawBunchHeader.{RawBunchHeader}
use Rattle.packet_header.specs.declared.BunchFields.{BunchFields}
use Rattle.packet_header.specs.Header.{readable, as_header, fields}
use Rattle.packet_reading.specs.declared.RawPacketReader.{RawPacketReader}
use Rattle.packet_reading.specs.Packet.{ReaderTables, rest, header, next_bunch}
use Rattle.packet_reading.specs.Memory.{ReaderMemory, reader_tables}
use Rattle.packet_reading.specs.Answers.{ReadReply, read_reply}
use Rattle.packet.specs.Answers.{read_bunch}
use Rattle.packet.proofs.Calls.{answered}
use Rattle.writer_spelling.specs.Bits.{bits_from}
use Rattle.writer_spelling.specs.Header.{fields_of, header_bits, writable}
use Rattle.writer_spelling.proofs.Allowed.{dormant_back, sayable}
use Rattle.types.proofs.Reasons.{reason_back}
use Rattle.writer.proofs.Bunches.{BunchBack, length_bunch, bunch_has_bits, bunch_reads}
use Rattle.claims.specs.RoundTrip.{WriterInput, SameFields, SameBunch}
use Rattle.claims.proofs.Rows.{bits_of_one, Tested}
use Rattle.claims.proofs.Marks.{Marked}
use Rattle.claims.proofs.Keeping.{Sound}
use Rattle.claims.proofs.Steps.{at_bunch, past_bunch}

-- a header made of the fields that were written
same_fields : (h : RawBunchHeader) → writable h ≡ true → (count id at sequence : ℕ) (limited error completed : Bool)
    → SameFields h count (header (fields_of h count) id at sequence limited error completed)
unfolding fields_of
same_fields h w count id at sequence limited error completed =
    record {
      opens = refl;
      closes = refl;
      dormant = dormant_back h w;
      reason = reason_back h.close_reason;
      paused = refl;
      reliable = refl;
      channel = refl;
      exports = refl;
      must_be_mapped = refl;
      partial = refl;
      initial = refl;
      final = refl;
      payload_count = refl;
    }

module _ (d : List ℕ) {bits : ℕ} (marked : Marked d bits) (id : ℤ) (r : RawPacketReader) (m : ReaderMemory) (sound : Sound r m) (at : ℕ) where
  abbrev t : ReaderTables
  t = reader_tables r m

  pub answers : at ≤ bits → read_reply (next_bunch r.max_channels d (of_z w32 id) at t) m ≡ read_bunch d id at r m
  answers h = answered d id at r m sound marked.few (rw marked.data_end h)

  -- one bunch, whose bits stand at the cursor
  module _ (b : WriterInput) (channel : b.header.ch_index < 2 ^ 32) (tested : Tested b)
      (there : bits_from d at (length (bits_of_one b)) ≡ bits_of_one b)
      (fits : at + length (bits_of_one b) ≤ bits) where
    abbrev f : BunchFields
    f = fields_of b.header b.count

    abbrev from : ℕ
    from = at + length (header_bits f)

    back : BunchBack b.header b.payload b.count d (rest bits at)
    back =
        bunch_reads b.header b.payload b.count (sayable b.header tested.allowed b.count channel tested.few) d (rest bits at)
        (rw (zero-add at) there) (omega arith)

    reads : as_header (fields d (rest bits at)) ≡ readable f from
    reads = ap as_header back.header

    before : at < bits
    before = omega (arith, bunch_has_bits b.header b.payload b.count)

    ends : from + f.payload_bit_count ≤ bits
    unfolding fields_of
    ends = omega (arith, length_bunch b.header b.payload b.count)

    pub one_bunch : SameBunch b d (read_bunch d id at r m).answer
    unfolding fields_of
    one_bunch =
        record {
          header = _;
          window = _;
          answered = ap (λ (x : ReadReply). x.answer) (sym (answers (omega (arith, before))))
              ∙ ap value (at_bunch r.max_channels (of_z w32 id) t d marked at before f from reads ends);
          fields = same_fields b.header tested.allowed b.count (of_z w32 id) from _ _ _ _;
          payload = record { unread = refl; whole = refl; inside = rw marked.data_end ends; same_bits = rw (zero-add at) at back.payload_there };
        }

    pub next_place : (read_bunch d id at r m).next ≡ at + length (bits_of_one b)
    unfolding fields_of
    next_place =
        ap (λ (x : ReadReply). x.next) (sym (answers (omega (arith, before)))) ∙ past_bunch r.max_channels (of_z w32 id) t d marked at before f from reads ends
        ∙ omega (arith, length_bunch b.header b.payload b.count)
