-- The round trip: the writer's row leaves marked data that holds all bits in a row, and the reader takes one bunch after the
-- other from it.
use Prim.Native.Nat.{ℕ, ◌+◌, ◌*◌, ◌/◌, ◌≤◌}
use mathlib.Core.Path.{◌≡◌, sym, ap, ap₂, ◌∙◌, subst}
use mathlib.Core.List.{List, [], ◌∷◌}
use native.Mathlib.Nat.{zero-add}
use native.Mathlib.Omega.{arith}
use lib.IntN.{ℤ}
use lib.ListN.{length, take, length-append}
use mir.Syntax.{w32}
use mir.Val.{of_z}
use Rattle.bitio_window.specs.Parse.{value}
use Rattle.packet_reading.specs.declared.RawPacketReader.{RawPacketReader}
use Rattle.packet_reading.specs.Memory.{ReaderMemory, reader_tables}
use Rattle.packet_reading.specs.Answers.{ReadReply}
use Rattle.packet.specs.Answers.{read_bunch}
use Rattle.writer_spelling.specs.Bits.{bits_from}
use Rattle.writer.specs.Answers as Writing
use Rattle.writer_spelling.proofs.Reading.{in_a_row}
use Rattle.claims.specs.RoundTrip.{WriterInput, reader_after, ReadsBack, ChannelsAreU32, RoundTrip}
use Rattle.claims.proofs.Rows.{bits_of_one, bits_of_all, AllTested, row}
use Rattle.claims.proofs.Marks.{Marked, packet, packet_marked, packet_holds}
use Rattle.claims.proofs.Keeping.{Sound, left}
use Rattle.claims.proofs.Steps.{at_end}
use Rattle.claims.proofs.OneBunch.{answers, one_bunch, next_place}

read_back : (bs : List WriterInput) → ChannelsAreU32 bs → AllTested bs → (d : List ℕ) {bits : ℕ} → Marked d bits → (id : ℤ) (r : RawPacketReader) (m : ReaderMemory) → Sound r m
    → (at : ℕ) → bits_from d at (length (bits_of_all bs)) ≡ bits_of_all bs → at + length (bits_of_all bs) ≡ bits → ReadsBack bs d id at r m
read_back [] c t d {bits} marked id r m s at there ends =
    let e : bits ≡ at = omega arith in
    ap (λ (x : ReadReply). x.answer) (sym (answers d marked id r m s at (omega arith)))
    ∙ ap value (at_end r.max_channels (of_z w32 id) (reader_tables r m) d (rw e at marked))
read_back (b ∷ bs) c t d {bits} marked id r m s at there ends =
    let xs = bits_of_one b in
    let parts = in_a_row d at xs (bits_of_all bs) there in
    let size = length-append xs (bits_of_all bs) in
    let fits : at + length xs ≤ bits = omega arith in
    let next = next_place d marked id r m s at b c.0 t.0 parts.0 fits in
    let x = read_bunch d id at r m in (
      one_bunch d marked id r m s at b c.0 t.0 parts.0 fits,
      read_back bs c.1 t.1 d marked id (reader_after r x) x.memory (left r d id at m s).lasts x.next (rw next parts.1) (omega arith),
    )

pub round_trip : RoundTrip
round_trip bunches c p q n written r m sound id =
    let done = row bunches p 0 (ap (λ (x : Writing.WriteReply). x.answer) written) in
    let bits = bits_of_all bunches in
    let room : length bits + 1 ≤ Writing.room_of p = rw (zero-add (length bits)) at done.room in
    let e = sym done.written ∙ written in
    let to : 8 * ((0 + length bits) / 8 + 1) ≡ n = let f = ap (λ (x : Writing.WriteReply). x.answer) e in cc in
    let bytes : length bits / 8 + 1 ≡ n / 8 = omega arith in
    let same : packet p bits room ≡ take (n / 8) q = ap₂ take bytes (ap (λ (x : Writing.WriteReply). x.packet) e) in
    subst (λ (d : List ℕ). ReadsBack bunches d id 0 r m) same
    (read_back bunches c done.tested (packet p bits room) (packet_marked p bits room) id r m sound 0 (packet_holds p bits room) (zero-add (length bits)))
