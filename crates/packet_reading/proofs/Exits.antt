-- What each way out of a reading call shows: the answer is the definition's, and the tables stay sound.
use Prim.Native.Nat.{ℕ, ◌≤◌, ◌<◌}
use mathlib.Core.Path.{◌≡◌, refl, ap, sym, ◌∙◌}
use mathlib.Core.Bool.{false}
use mathlib.Core.List.{List}
use lib.ListN.{length}
use Rattle.bitio_window.specs.declared.Window.{Window}
use Rattle.bitio_window.specs.declared.PacketBit.{PacketBit}
use Rattle.bitio_window.specs.Refusals.{Refusal}
use Rattle.bitio_window.specs.Parse.{got, refused}
use Rattle.packet_header.specs.Header.{fields}
use Rattle.packet_header.specs.declared.BunchFields.{BunchFields}
use Rattle.packet_reading.specs.declared.RawPacketReader.{RawPacketReader}
use Rattle.packet_reading.specs.declared.BunchRead.{BunchRead}
use Rattle.packet_reading.specs.Packet.{ReaderTables, Outcome, Read, end, malformed, last_byte, data_bits, rest, next_bunch}
use Rattle.packet_reading.specs.Memory.{ReaderMemory, reader_tables}
use Rattle.packet_reading.specs.State.{ReaderSound}
use Rattle.packet_reading.specs.Answers.{of_read, read_reply}
use Rattle.packet_reading.specs.Turns.{stopping, finishes}
use Rattle.packet_reading.proofs.Reading.{says_end, says_broken, empty, unmarked, at_end, unread, read_on}
use Rattle.packet_reading.proofs.Lasting.{state_of}

module _ {q : RawPacketReader} {m : ReaderMemory} (state : ReaderSound q m) (d : List ℕ) (id at : ℕ) (r : BunchRead) (a : PacketBit) where
  abbrev t : ReaderTables
  t = reader_tables q m

  abbrev Shown : RawPacketReader → ReaderMemory → Type 0
  Shown v n = (of_read r a v n ≡ read_reply (next_bunch q.max_channels d id at t) m) × (v.max_channels ≡ q.max_channels) × ReaderSound v n

  shown : {v : RawPacketReader} {n : ReaderMemory} {x : Read} → of_read r a v n ≡ read_reply x m → v.max_channels ≡ q.max_channels → next_bunch q.max_channels d id at t ≡ x → Shown v n
  shown {v} {n} e l f = let g = e ∙ ap (λ (y : Read). read_reply y m) (sym f) in (g, l, rw l (state_of state d id at r a v n g))

  abbrev Stopped : Outcome → ℕ → ℕ → Type 0
  Stopped o bits broken = of_read r a q m ≡ stopping o bits broken false q.live_sequences q.live_partials m

  pub out_empty : Stopped end 0 0 → length d ≡ 0 → Shown q m
  out_empty e h = shown (e ∙ says_end state 0) refl (empty q.max_channels d id at t h)

  module _ (some : length d ≡ 0 → ⊥) where
    pub out_unmarked : Stopped malformed 0 1 → last_byte d ≡ 0 → Shown q m
    out_unmarked e h = shown (e ∙ says_broken state 0 false) refl (unmarked q.max_channels d id at t some h)

    module _ (marked : last_byte d ≡ 0 → ⊥) {bits : ℕ} (is : bits ≡ data_bits d) where
      pub out_end : Stopped end bits 0 → bits ≤ at → Shown q m
      out_end e h = shown (e ∙ rw is (says_end state (data_bits d))) refl (at_end q.max_channels d id at t some marked (rw is at h))

      -- by what the header's reads gave
      module _ (less : at < bits) where
        pub out_unread : {x : Refusal} {u : Window} → refused x u ≡ fields d (rest bits at) → Stopped malformed bits 1 → Shown q m
        out_unread h e = shown (e ∙ rw is (says_broken state (data_bits d) false)) refl (unread q.max_channels d id at t some marked (rw is at less) (rw is at h))

        pub out_read : {f : BunchFields} {u : Window} → got f u ≡ fields d (rest bits at) → {v : RawPacketReader} {n : ReaderMemory}
            → of_read r a v n ≡ finishes q.max_channels q.live_sequences q.live_partials bits f id u.position.0 m → v.max_channels ≡ q.max_channels → Shown v n
        unfolding finishes
        out_read h e l = shown (rw is at e) l (read_on q.max_channels d id at t some marked (rw is at less) (rw is at h))
