-- What the public calls answer, in the paper's terms.
use Rattle.std.specs.Prelude.{ℕ, cond, List, ltb, ℤ, length, Ok, Err, Result as Answered}
use Rattle.std.specs.Int.{w32}
use Rattle.std.proofs.Common.{of_z}
use Rattle.types.specs.Types.{longest_packet}
use Rattle.bitio_window.specs.declared.PacketBit.{PacketBit}
use Rattle.bitio_window.specs.Refusals.{Refusal, beyond, packet_too_long, unfit, unsound}
use Rattle.bitio_window.specs.Parse.{Result, value, refusal}
use Rattle.packet_reading.specs.declared.RawPacketReader.{RawPacketReader}
use Rattle.packet_reading.specs.declared.BunchRead.{BunchRead}
use Rattle.packet_reading.specs.declared.PacketError.{PacketError}
use Rattle.packet_reading.specs.Packet as P
use Rattle.packet_reading.specs.Memory.{ReaderMemory, tables_fit, reader_of, reader_tables, reader_sound}
use Rattle.packet_reading.specs.Answers.{packet_paper, ReadReply, of_read, read_reply}

-- "These change no lent byte or state."
abbrev pub read_refuses : Refusal → ℕ → RawPacketReader → ReaderMemory → ReadReply
read_refuses e at r m =
    record {
      answer = refusal e;
      next = at;
      bunches = 0;
      malformed_packets = 0;
      partial_errors = 0;
      channel_limits = 0;
      live_sequences = r.live_sequences;
      live_partials = r.live_partials;
      memory = m;
    }

-- what the call answers, and where it leaves the cursor, the reader and the lent memory
abbrev pub of_answer : Answered BunchRead PacketError → PacketBit → RawPacketReader → ReaderMemory → ReadReply
of_answer (Ok b) at r m = of_read b at r m
of_answer (Err e) at r m = read_refuses (packet_paper e) at.0 r m

-- The packet id goes in as its word (crates/bitio_bits/proofs/Signed.antt: a word's number is the id again).
-- "Calls on state or packets test 10, 8"; "A packet cursor past the data's end … is 5 likewise, after 8"
unfoldable pub read_bunch : List ℕ → ℤ → ℕ → RawPacketReader → ReaderMemory → ReadReply
read_bunch d id at r m =
    cond (reader_sound r m)
    (cond (ltb longest_packet (length d)) (read_refuses (packet_too_long (length d)) at r m)
    (cond (ltb (P.data_bits d) at) (read_refuses (beyond at (P.data_bits d)) at r m)
    (read_reply (P.next_bunch r.max_channels d (of_z w32 id) at (reader_tables r m)) m)))
    (read_refuses unsound at r m)

abbrev pub of_opened_reader : Answered RawPacketReader PacketError → Result RawPacketReader
of_opened_reader (Ok r) = value r
of_opened_reader (Err e) = refusal (packet_paper e)

-- "Packet tables: the limit at most 4,096 and the lent tables' size": else 9. An opened reader has no channel.
unfoldable pub opened_reader : ℕ → ReaderMemory → Result RawPacketReader
opened_reader limit m = cond (tables_fit limit m) (value (reader_of limit 0 0)) (refusal unfit)
