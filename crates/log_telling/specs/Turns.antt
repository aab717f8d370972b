-- What the contracts of `inner` name: the room that a packet needs, and what its listing leaves.
use Rattle.std.specs.Prelude.{ℕ, ◌+◌, ◌≤◌, ◌≡◌, List, length}
use Rattle.packet_reading.specs.declared.RawPacketReader.{RawPacketReader}
use Rattle.packet_reading.specs.Memory.{ReaderMemory, reader_tables}
use Rattle.packet_reading.specs.State.{ReaderSound}
use Rattle.log_lines.specs.Texts.{written}
use Rattle.log_telling.specs.declared.inner.Sums.{Sums}
use Rattle.log_telling.specs.Listed.{ListedPacket}

-- no sum has passed a bound
pub record Few (n : ℕ) (s : Sums) : Type 0 where
  pub bunches : s.bunches ≤ n
  pub malformed_packets : s.malformed_packets ≤ n
  pub partial_errors : s.partial_errors ≤ n
  pub channel_limits : s.channel_limits ≤ n

-- A header takes at least 29 bits and a line at most 96 bytes: the most that a packet of 65,535 bytes can add.
abbrev pub packet_room : ℕ
packet_room = 1735680

pub record PacketRoom (out : List ℕ) (used : ℕ) : Type 0 where
  pub left : used + packet_room ≤ length out

-- the packet's text stands in the buffer up to an end, and the reader's tables are those after it
pub record TellsPacket (l : ListedPacket) (before : List ℕ) (used : ℕ) (after : List ℕ) (m : ReaderMemory) (r : RawPacketReader)
    (end : ℕ) : Type 0 where
  pub bytes : after ≡ written before used l.text
  pub ends : end ≡ used + length l.text
  pub inside : end ≤ length after
  pub size : length after ≡ length before
  pub tables : reader_tables r m ≡ l.channels
  pub state : ReaderSound r m
