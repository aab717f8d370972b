-- Demand 2: "Reading back what our added bunch writer wrote gives the same header fields and payload." The claim stands last.
use Rattle.std.specs.Prelude.{ℕ, ◌+◌, ◌/◌, ◌^◌, ◌≤◌, ◌<◌, ◌≡◌, true, List, [], ◌∷◌, ℤ, take}
use Rattle.bitio_window.specs.declared.Window.{Window}
use Rattle.bitio_window.specs.Parse.{Result, value, refusal}
use Rattle.types.specs.declared.RawBunchHeader.{RawBunchHeader}
use Rattle.packet_reading.specs.declared.RawPacketReader.{RawPacketReader}
use Rattle.packet_reading.specs.Packet.{Outcome, bunch, end, data_bits}
use Rattle.packet_reading.specs.Memory.{ReaderMemory, reader_of, reader_sound}
use Rattle.packet.specs.Answers.{read_bunch}
use Rattle.packet_reading.specs.Answers as Reading
use Rattle.writer_spelling.specs.Bits.{bits_from}
use Rattle.writer.specs.Answers.{WriteReply, write_refuses, write_bunch, close_packet}

-- what a call of the writer is handed: a header, the payload's bytes, and how many of their bits count
pub record WriterInput : Type 0 where
  pub header : RawBunchHeader
  pub payload : List ℕ
  pub count : ℕ

-- a refusal ends a row of calls
abbrev pub then_writes : Result ℕ → List ℕ → (List ℕ → ℕ → WriteReply) → WriteReply
then_writes (value to) p next = next p to
then_writes (refusal e) p next = write_refuses e p

-- The writer's calls in a row, each on the packet as the one before left it and at the cursor that it answered. "After the last
-- bunch a closing call adds the end mark".
unfoldable pub writes : List WriterInput → List ℕ → ℕ → WriteReply
writes [] p at = close_packet p at
writes (b ∷ bs) p at = let r = write_bunch b.header b.payload b.count p at in then_writes r.answer r.packet (writes bs)

-- "the same header fields": all but "Sequence, packet id, offset, completion, error fields", which are not written. "the count
-- written is the payload's"
pub record SameFields (written : RawBunchHeader) (count : ℕ) (read : RawBunchHeader) : Type 0 where
  pub opens : read.b_open ≡ written.b_open
  pub closes : read.b_close ≡ written.b_close
  pub dormant : read.b_dormant ≡ written.b_dormant
  pub reason : read.close_reason ≡ written.close_reason
  pub paused : read.b_is_replication_paused ≡ written.b_is_replication_paused
  pub reliable : read.b_reliable ≡ written.b_reliable
  pub channel : read.ch_index ≡ written.ch_index
  pub exports : read.b_has_package_map_exports ≡ written.b_has_package_map_exports
  pub must_be_mapped : read.b_has_must_be_mapped_guids ≡ written.b_has_must_be_mapped_guids
  pub partial : read.b_partial ≡ written.b_partial
  pub initial : read.b_partial_initial ≡ written.b_partial_initial
  pub final : read.b_partial_final ≡ written.b_partial_final
  pub payload_count : read.payload_bit_count ≡ count

-- "and payload": a window that is not yet read, before the end mark, over bits of the data that are the payload's
pub record SamePayload (payload : List ℕ) (count : ℕ) (d : List ℕ) (w : Window) : Type 0 where
  pub unread : w.position.0 ≡ 0
  pub whole : w.length ≡ count
  pub inside : w.start.0 + count ≤ data_bits d
  pub same_bits : bits_from d w.start.0 count ≡ bits_from payload 0 count

-- an answer is the bunch that the writer was handed
pub record SameBunch (b : WriterInput) (d : List ℕ) (answer : Result Outcome) : Type 0 where
  pub header : RawBunchHeader
  pub window : Window
  pub answered : answer ≡ value (bunch header window)
  pub fields : SameFields b.header b.count header
  pub payload : SamePayload b.payload b.count d window

-- the reader with its live places as a call left them
abbrev pub reader_after : RawPacketReader → Reading.ReadReply → RawPacketReader
reader_after r x = reader_of r.max_channels x.live_sequences x.live_partials

-- The reader's calls in a row, each on the memory and the live places as the one before left them and at the cursor that it
-- answered, answer those bunches in order, and then the end: not malformed.
abbrev pub ReadsBack : List WriterInput → List ℕ → ℤ → ℕ → RawPacketReader → ReaderMemory → Type 0
ReadsBack [] d id at r m = (read_bunch d id at r m).answer ≡ value end
ReadsBack (b ∷ bs) d id at r m =
    let x = read_bunch d id at r m in
    SameBunch b d x.answer × ReadsBack bs d id x.next (reader_after r x) x.memory

-- the bound of the field's type, which a list of numbers does not have by itself
abbrev pub ChannelsAreU32 : List WriterInput → Type 0
ChannelsAreU32 [] = Unit
ChannelsAreU32 (b ∷ bs) = (b.header.ch_index < 2 ^ 32) × ChannelsAreU32 bs

-- the claim: where no call is refused, the bytes up to the bit that the closing call answers read back, from any sound state
abbrev pub RoundTrip : Type 0
RoundTrip =
    (bunches : List WriterInput) → ChannelsAreU32 bunches
    → (p q : List ℕ) (n : ℕ) → writes bunches p 0 ≡ record { answer = value n; packet = q }
    → (r : RawPacketReader) (m : ReaderMemory) → reader_sound r m ≡ true
    → (id : ℤ) → ReadsBack bunches (take (n / 8) q) id 0 r m
