-- What a reading call answers, in the paper's terms.
use Rattle.std.specs.Prelude.{ℕ, length}
use Rattle.bitio_window.specs.declared.PacketBit.{PacketBit}
use Rattle.bitio_window.specs.Refusals.{Refusal, beyond, packet_too_long, unfit, unsound}
use Rattle.bitio_window.specs.Parse.{Result, value}
use Rattle.packet_reading.specs.declared.PacketError.{PacketError}
use Rattle.packet_reading.specs.declared.RawPacketReader.{RawPacketReader}
use Rattle.packet_reading.specs.declared.Bunch.{Bunch}
use Rattle.packet_reading.specs.declared.BunchRead.{BunchRead}
use Rattle.packet_reading.specs.Packet as P
use Rattle.packet_reading.specs.Memory.{ReaderMemory, tables_laid_in}

-- the paper's number and values for each case
abbrev pub packet_paper : PacketError → Refusal
packet_paper (PacketError.CursorPastEnd position available) = beyond position available
packet_paper (PacketError.PacketTooLong length) = packet_too_long length
packet_paper PacketError.Unfit = unfit
packet_paper PacketError.Unsound = unsound

-- a bunch or a refusal, the next cursor, the rises, the live places, and the lent memory
pub record ReadReply : Type 0 where
  pub answer : Result P.Outcome
  pub next : ℕ
  pub bunches : ℕ
  pub malformed_packets : ℕ
  pub partial_errors : ℕ
  pub channel_limits : ℕ
  pub live_sequences : ℕ
  pub live_partials : ℕ
  pub memory : ReaderMemory

abbrev pub bunch_outcome : Bunch → P.Outcome
bunch_outcome (Bunch.Read h w) = P.bunch h w
bunch_outcome Bunch.End = P.end
bunch_outcome Bunch.Malformed = P.malformed

abbrev pub of_read : BunchRead → PacketBit → RawPacketReader → ReaderMemory → ReadReply
of_read b at r m =
    record {
      answer = value (bunch_outcome b.answer);
      next = at.0;
      bunches = b.bunches;
      malformed_packets = b.malformed_packets;
      partial_errors = b.partial_errors;
      channel_limits = b.channel_limits;
      live_sequences = r.live_sequences;
      live_partials = r.live_partials;
      memory = m;
    }

-- A place that a retired channel leaves keeps what stood there.
abbrev pub read_reply : P.Read → ReaderMemory → ReadReply
read_reply x m =
    record {
      answer = value x.outcome;
      next = x.next;
      bunches = x.bunches;
      malformed_packets = x.malformed_packets;
      partial_errors = x.partial_errors;
      channel_limits = x.channel_limits;
      live_sequences = length x.channels.sequences;
      live_partials = length x.channels.partials;
      memory = tables_laid_in x.channels (tables_laid_in x.held m);
    }
