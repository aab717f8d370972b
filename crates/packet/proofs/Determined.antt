-- The calls' promises in the paper's terms determine the answer and the lent memory: no two answers of the code say the same.
use mathlib.Core.Path.{◌≡◌, refl, ap, sym, ◌∙◌}
use Prim.Native.Nat.{ℕ}
use mathlib.Core.Bool.{cond}
use lib.Dec.{eqb}
use lib.ListN.{get_or}
use Rattle.std.specs.Prelude.{Ok, Err, Result as Answered}
use Rattle.bitio_window.specs.declared.PacketBit.{PacketBit}
use Rattle.bitio_window.specs.Refusals.{Refusal, beyond, packet_too_long, unfit, unsound}
use Rattle.bitio_window.specs.Parse.{Result, value, refusal}
use Rattle.packet_reading.specs.declared.PacketError.{PacketError}
use Rattle.packet_reading.specs.declared.Bunch.{Bunch}
use Rattle.packet_reading.specs.declared.BunchRead.{BunchRead}
use Rattle.packet_reading.specs.declared.RawPacketReader.{RawPacketReader}
use Rattle.packet_reading.specs.Packet as P
use Rattle.packet_reading.specs.Memory.{ReaderMemory, reader_of}
use Rattle.packet_reading.specs.Answers.{packet_paper, ReadReply, bunch_outcome}
use Rattle.packet.specs.Answers.{of_answer, of_opened_reader}

-- a refusal by its number and what it returns
unpacket : Refusal → PacketError
unpacket r =
    cond (eqb r.number 5) (PacketError.CursorPastEnd (get_or r.returns 0 0) (get_or r.returns 1 0))
    (cond (eqb r.number 8) (PacketError.PacketTooLong (get_or r.returns 0 0)) (cond (eqb r.number 9) PacketError.Unfit PacketError.Unsound))

unpacket_paper : (e : PacketError) → unpacket (packet_paper e) ≡ e
unfolding unpacket beyond packet_too_long unfit unsound
unpacket_paper (PacketError.CursorPastEnd p a) = refl
unpacket_paper (PacketError.PacketTooLong l) = refl
unpacket_paper PacketError.Unfit = refl
unpacket_paper PacketError.Unsound = refl

-- an answer, read back
abbrev back : P.Outcome → Bunch
back (P.bunch h w) = Bunch.Read h w
back P.end = Bunch.End
back P.malformed = Bunch.Malformed

bunch_back : (b : Bunch) → back (bunch_outcome b) ≡ b
bunch_back (Bunch.Read h w) = refl
bunch_back Bunch.End = refl
bunch_back Bunch.Malformed = refl

abbrev answered : Result P.Outcome → ReadReply → Answered BunchRead PacketError
answered (value o) x =
    Ok
    (record {
      answer = back o;
      bunches = x.bunches;
      malformed_packets = x.malformed_packets;
      partial_errors = x.partial_errors;
      channel_limits = x.channel_limits;
    })
answered (refusal r) x = Err (unpacket r)

abbrev again : ReadReply → Answered BunchRead PacketError
again x = answered x.answer x

read_again : (r : Answered BunchRead PacketError) (a : PacketBit) (v : RawPacketReader) (m : ReaderMemory) → again (of_answer r a v m) ≡ r
read_again (Ok b) a v m = rw (bunch_back b.answer)
read_again (Err e) a v m = ap Err (unpacket_paper e)

-- a cursor and a reader of a given limit, as an answer leaves them
next_again : (r : Answered BunchRead PacketError) (a : PacketBit) (v : RawPacketReader) (m : ReaderMemory) → record { 0 = (of_answer r a v m).next } ≡ a
next_again (Ok b) a v m = refl
next_again (Err e) a v m = refl

sequences_again : (r : Answered BunchRead PacketError) (a : PacketBit) (v : RawPacketReader) (m : ReaderMemory) → (of_answer r a v m).live_sequences ≡ v.live_sequences
sequences_again (Ok b) a v m = refl
sequences_again (Err e) a v m = refl

partials_again : (r : Answered BunchRead PacketError) (a : PacketBit) (v : RawPacketReader) (m : ReaderMemory) → (of_answer r a v m).live_partials ≡ v.live_partials
partials_again (Ok b) a v m = refl
partials_again (Err e) a v m = refl

reader_again : (r : Answered BunchRead PacketError) (a : PacketBit) (v : RawPacketReader) (m : ReaderMemory)
    → reader_of v.max_channels (of_answer r a v m).live_sequences (of_answer r a v m).live_partials ≡ v
reader_again (Ok b) a v m = refl
reader_again (Err e) a v m = refl

pub memory_again : (r : Answered BunchRead PacketError) (a : PacketBit) (v : RawPacketReader) (m : ReaderMemory) → (of_answer r a v m).memory ≡ m
memory_again (Ok b) a v m = refl
memory_again (Err e) a v m = refl

module _ (r s : Answered BunchRead PacketError) (a b : PacketBit) (v w : RawPacketReader) (m n : ReaderMemory) (e : of_answer r a v m ≡ of_answer s b w n) where
  pub next_determined : a ≡ b
  next_determined = sym (next_again r a v m) ∙ ap (λ (x : ReadReply). record { 0 = x.next }) e ∙ next_again s b w n

  -- the answer, where the call leaves the cursor, and how many places of each table then count
  pub read_determined : (r ≡ s) × (a ≡ b) × (v.live_sequences ≡ w.live_sequences) × (v.live_partials ≡ w.live_partials)
  read_determined = (
    sym (read_again r a v m) ∙ ap again e ∙ read_again s b w n,
    next_determined,
    sym (sequences_again r a v m) ∙ ap (λ (x : ReadReply). x.live_sequences) e ∙ sequences_again s b w n,
    sym (partials_again r a v m) ∙ ap (λ (x : ReadReply). x.live_partials) e ∙ partials_again s b w n,
  )

  pub reader_determined : v.max_channels ≡ w.max_channels → v ≡ w
  reader_determined l =
      sym (reader_again r a v m) ∙ ap (λ (x : ReadReply). reader_of v.max_channels x.live_sequences x.live_partials) e
      ∙ ap (λ (k : ℕ). reader_of k (of_answer s b w n).live_sequences (of_answer s b w n).live_partials) l
      ∙ reader_again s b w n

  pub memory_determined : m ≡ n
  memory_determined = sym (memory_again r a v m) ∙ ap (λ (x : ReadReply). x.memory) e ∙ memory_again s b w n

abbrev reopened : Result RawPacketReader → Answered RawPacketReader PacketError
reopened (value r) = Ok r
reopened (refusal e) = Err (unpacket e)

opened_again : (o : Answered RawPacketReader PacketError) → reopened (of_opened_reader o) ≡ o
opened_again (Ok r) = refl
opened_again (Err e) = ap Err (unpacket_paper e)

pub opened_determined : (o q : Answered RawPacketReader PacketError) → of_opened_reader o ≡ of_opened_reader q → o ≡ q
opened_determined o q e = sym (opened_again o) ∙ ap reopened e ∙ opened_again q
