-- The public call, test by test.
use Prim.Native.Nat.{ℕ, ◌≤◌, ◌<◌}
use mathlib.Core.Path.{◌≡◌, ap}
use mathlib.Core.Bool.{true, false}
use mathlib.Core.List.{List}
use lib.IntN.{ℤ}
use lib.ListN.{length}
use mir.Syntax.{w32}
use mir.Val.{of_z}
use borrow.Author.Tests.{le-ltb, lt-ltb}
use Rattle.std.specs.Prelude.{Ok, Err, Result as Answered, IsErrAnd}
use Rattle.bitio_window.specs.declared.PacketBit.{PacketBit}
use Rattle.bitio_window.specs.Refusals.{beyond, packet_too_long, unsound}
use Rattle.packet_reading.specs.declared.RawPacketReader.{RawPacketReader}
use Rattle.packet_reading.specs.declared.BunchRead.{BunchRead}
use Rattle.packet_reading.specs.declared.PacketError.{PacketError}
use Rattle.packet_reading.specs.Packet.{data_bits, next_bunch}
use Rattle.packet_reading.specs.Memory.{ReaderMemory, reader_tables, reader_sound}
use Rattle.packet_reading.specs.Answers.{packet_paper, read_reply}
use Rattle.packet.specs.Answers.{of_answer, read_refuses, read_bunch}

-- what a `?` hands on is the refusal that it met
pub handed_on : (r : Answered BunchRead PacketError) (e : PacketError) → IsErrAnd r (λ x. x ≡ e) → (at : PacketBit) (v : RawPacketReader) (m : ReaderMemory)
    → of_answer r at v m ≡ read_refuses (packet_paper e) at.0 v m
handed_on (Ok b) e h at v m = absurd h
handed_on (Err x) e h at v m = ap (λ (y : PacketError). read_refuses (packet_paper y) at.0 v m) h

module _ (d : List ℕ) (id : ℤ) (at : ℕ) (r : RawPacketReader) (m : ReaderMemory) where
  pub ten : reader_sound r m ≡ false → read_refuses unsound at r m ≡ read_bunch d id at r m
  unfolding read_bunch
  ten h = rw h

  module _ (tested : reader_sound r m ≡ true) where
    pub eight : 65535 < length d → read_refuses (packet_too_long (length d)) at r m ≡ read_bunch d id at r m
    unfolding read_bunch
    eight h = rw (tested, lt-ltb 65535 (length d) h)

    pub five : length d ≤ 65535 → data_bits d < at → read_refuses (beyond at (data_bits d)) at r m ≡ read_bunch d id at r m
    unfolding read_bunch
    five h k = rw (tested, le-ltb 65535 (length d) h, lt-ltb (data_bits d) at k)

    pub answered : length d ≤ 65535 → at ≤ data_bits d → read_reply (next_bunch r.max_channels d (of_z w32 id) at (reader_tables r m)) m ≡ read_bunch d id at r m
    unfolding read_bunch
    answered h k = rw (tested, le-ltb 65535 (length d) h, le-ltb (data_bits d) at k)
