-- What the writer's calls answer, and what they leave in the lent packet.
use Rattle.std.specs.Prelude.{ℕ, ◌+◌, ◌*◌, ◌/◌, min, Bool, true, cond, List, [], ◌∷◌, ltb, length, Ok, Err, Result as Returned}
use Rattle.types.specs.Types.{longest_packet, longest_payload}
use Rattle.bitio_window.specs.declared.PacketBit.{PacketBit}
use Rattle.bitio_window.specs.Refusals.{Refusal, beyond, payload_too_long, payload_short, unwritable, no_room}
use Rattle.bitio_window.specs.Parse.{Result, value, refusal}
use Rattle.types.specs.declared.RawBunchHeader.{RawBunchHeader}
use Rattle.writer.specs.declared.WriteError.{WriteError}
use Rattle.writer_spelling.specs.Bits.{put_bits}
use Rattle.writer_spelling.specs.Header.{bunch_bits, writable}

-- the paper's number and values for each case
abbrev pub write_paper : WriteError → Refusal
write_paper (WriteError.CursorPastRoom position available) = beyond position available
write_paper (WriteError.PayloadTooLong count) = payload_too_long count
write_paper (WriteError.PayloadShort count) = payload_short count
write_paper WriteError.Unwritable = unwritable
write_paper (WriteError.NoRoom bits) = no_room bits

-- up to which bit the packet is written, or a refusal; and the lent packet
pub record WriteReply : Type 0 where
  pub answer : Result ℕ
  pub packet : List ℕ

-- up to which bit the packet is written, or why nothing was
abbrev pub Written : Type 0
Written = Returned PacketBit WriteError

abbrev pub of_written : Written → Result ℕ
of_written (Ok bit) = value bit.0
of_written (Err e) = refusal (write_paper e)

abbrev pub replied : Written → List ℕ → WriteReply
replied r p = record { answer = of_written r; packet = p }

-- "These change no lent byte or state."
abbrev pub write_refuses : Refusal → List ℕ → WriteReply
write_refuses e p = record { answer = refusal e; packet = p }

-- "A packet stays within 65,535 bytes, else 17."
abbrev pub room_of : List ℕ → ℕ
room_of p = 8 * min (length p) longest_packet

-- the packet's bits with so many more, as far as 64 bits count: only a lent packet of 2 ^ 61 bytes has a cursor beyond
abbrev pub bits_with : ℕ → ℕ → ℕ
bits_with at more = min (at + more) 18446744073709551615

-- the bits at the cursor, if there is room for them, and up to which bit the packet is then written
unfoldable pub appended : List Bool → List ℕ → ℕ → ℕ → WriteReply
appended bits p at to =
    cond (ltb (room_of p) (at + length bits)) (write_refuses (no_room (bits_with at (length bits))) p)
    (record { answer = value to; packet = put_bits p at bits })

-- "a writer cursor past its room is 5, before 16, with its place and the room's bits"; "the writer 16, 11, 12, 17"
unfoldable pub write_bunch : RawBunchHeader → List ℕ → ℕ → List ℕ → ℕ → WriteReply
write_bunch h payload count p at =
    let bits = bunch_bits h payload count in
    cond (ltb (8 * length p) at) (write_refuses (beyond at (8 * length p)) p)
    (cond (writable h)
    (cond (ltb longest_payload count) (write_refuses (payload_too_long count) p)
    (cond (ltb (8 * length payload) count) (write_refuses (payload_short count) p)
    (appended bits p at (at + length bits))))
    (write_refuses unwritable p))

-- "After the last bunch a closing call adds the end mark and zeros to the byte's end; it may give 17."
unfoldable pub close_packet : List ℕ → ℕ → WriteReply
close_packet p at =
    cond (ltb (8 * length p) at) (write_refuses (beyond at (8 * length p)) p)
    (appended (true ∷ []) p at (8 * (at / 8 + 1)))
