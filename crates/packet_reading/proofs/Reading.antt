-- What a reading call comes to, test by test, and what it leaves where no table changes.
use Prim.Native.Nat.{ℕ, ◌≤◌, ◌<◌}
use mathlib.Core.Path.{◌≡◌, sym, ap, ◌∙◌}
use mathlib.Core.Bool.{Bool, false}
use mathlib.Core.List.{List}
use native.Mathlib.Omega.{arith}
use lib.ListN.{length, take}
use lib.Seq.{length-take-le}
use borrow.Author.Tests.{le-leb, lt-leb, eq-eqb, ne_eqb}
use Rattle.tables.specs.Columns.{laid, beside}
use Rattle.tables.specs.Tables.{channels}
use Rattle.tables.proofs.Columns.{laid_take, length_beside, beside_first, beside_second}
use Rattle.tables.proofs.Held.{Holds, holds}
use Rattle.bitio_window.specs.declared.Window.{Window}
use Rattle.bitio_window.specs.Refusals.{Refusal}
use Rattle.bitio_window.specs.Parse.{got, refused}
use Rattle.packet_header.specs.declared.BunchFields.{BunchFields}
use Rattle.packet_header.specs.Header.{Header, unreadable, as_header, fields}
use Rattle.packet_tracking.specs.Sequences.{numbered}
use Rattle.packet_reading.specs.Packet.{compared, ReaderTables, end, malformed, last_byte, data_bits, rest, ended_at, malformed_at, headed, next_bunch}
use Rattle.packet_tracking.specs.SequenceColumns.{sequences_at}
use Rattle.packet_tracking.specs.PartialColumns.{partials_at, sequences_in_flight, reliables_in_flight}
use Rattle.packet_reading.specs.Memory.{ReaderMemory, tables_of, tables_laid_in}
use Rattle.packet_reading.specs.State.{TablesSound}
use Rattle.packet_reading.specs.Answers.{read_reply}
use Rattle.packet_reading.specs.Turns.{stopping}

-- a table's columns and its entries say the same
module _ {limit s p : ℕ} {m : ReaderMemory} (state : TablesSound limit s p m) where
  pub sequences_held : Holds (sequences_at s m.sequence_channels m.sequence_numbers) (take s m.sequence_channels) (take s m.sequence_numbers) s
  sequences_held =
      let f = state.sequences in
      holds _ _ (length-take-le s m.sequence_channels (omega (arith, f.live_fits, f.room))) (length-take-le s m.sequence_numbers (omega (arith, f.live_fits, state.numbers)))

  two : length (take p m.partial_sequences) ≡ length (take p m.partial_reliables)
  two =
      let f = state.partials in
      length-take-le p m.partial_sequences (omega (arith, f.live_fits, state.partial_sequences)) ∙ sym (length-take-le p m.partial_reliables (omega (arith, f.live_fits, state.partial_reliables)))

  pub partials_held : Holds (partials_at p m.partial_channels m.partial_sequences m.partial_reliables) (take p m.partial_channels) (beside (take p m.partial_sequences) (take p m.partial_reliables)) p
  partials_held =
      let f = state.partials in
      holds _ _ (length-take-le p m.partial_channels (omega (arith, f.live_fits, f.room)))
      (length_beside (take p m.partial_sequences) (take p m.partial_reliables) two ∙ length-take-le p m.partial_sequences (omega (arith, f.live_fits, state.partial_sequences)))

  -- the tracker's columns with its own table put first
  pub record SamePartials : Type 0 where
    pub channels_same : laid (channels (partials_at p m.partial_channels m.partial_sequences m.partial_reliables)) m.partial_channels ≡ m.partial_channels
    pub sequences_same : laid (sequences_in_flight (partials_at p m.partial_channels m.partial_sequences m.partial_reliables)) m.partial_sequences ≡ m.partial_sequences
    pub reliables_same : laid (reliables_in_flight (partials_at p m.partial_channels m.partial_sequences m.partial_reliables)) m.partial_reliables ≡ m.partial_reliables

  pub same_partials : SamePartials
  same_partials =
      record {
        channels_same = rw partials_held.first (laid_take p m.partial_channels);
        sequences_same = rw (partials_held.second, beside_first (take p m.partial_sequences) (take p m.partial_reliables) two) (laid_take p m.partial_sequences);
        reliables_same = rw (partials_held.second, beside_second (take p m.partial_sequences) (take p m.partial_reliables) two) (laid_take p m.partial_reliables);
      }

  pub same : tables_laid_in (tables_of s p m) m ≡ m
  unfolding tables_laid_in tables_of
  same =
      rw (sequences_held.first, sequences_held.second, laid_take s m.sequence_channels, laid_take s m.sequence_numbers, same_partials.channels_same, same_partials.sequences_same, same_partials.reliables_same)

  sequences_live : length (tables_of s p m).sequences ≡ s
  unfolding tables_of
  sequences_live = sequences_held.size

  partials_live : length (tables_of s p m).partials ≡ p
  unfolding tables_of
  partials_live = partials_held.size

  pub says_end : (bits : ℕ) → stopping end bits 0 false s p m ≡ read_reply (ended_at bits (tables_of s p m)) m
  says_end bits = sym (rw (sequences_live, partials_live, same, same))

  pub says_broken : (bits : ℕ) (limited : Bool) → stopping malformed bits 1 limited s p m ≡ read_reply (malformed_at bits limited (tables_of s p m)) m
  says_broken bits limited = sym (rw (sequences_live, partials_live, same, same))

-- the tests, in their order
module _ (limit : ℕ) (d : List ℕ) (id at : ℕ) (t : ReaderTables) where
  pub empty : length d ≡ 0 → next_bunch limit d id at t ≡ ended_at 0 t
  unfolding next_bunch
  empty h = rw (eq-eqb (length d) 0 h)

  module _ (some : length d ≡ 0 → ⊥) where
    pub unmarked : last_byte d ≡ 0 → next_bunch limit d id at t ≡ malformed_at 0 false t
    unfolding next_bunch
    unmarked h = rw (ne_eqb (length d) 0 some, eq-eqb (last_byte d) 0 h)

    module _ (marked : last_byte d ≡ 0 → ⊥) where
      pub at_end : data_bits d ≤ at → next_bunch limit d id at t ≡ ended_at (data_bits d) t
      unfolding next_bunch
      at_end h = rw (ne_eqb (length d) 0 some, ne_eqb (last_byte d) 0 marked, le-leb (data_bits d) at h)

      pub goes_on : at < data_bits d → {h : Header} → h ≡ as_header (fields d (rest (data_bits d) at)) → next_bunch limit d id at t ≡ headed (data_bits d) id limit h t
      unfolding next_bunch
      goes_on less e = rw (ne_eqb (length d) 0 some, ne_eqb (last_byte d) 0 marked, lt-leb (data_bits d) at less, sym e)

      -- by what the header's reads gave
      module _ (less : at < data_bits d) where
        pub unread : {r : Refusal} {u : Window} → refused r u ≡ fields d (rest (data_bits d) at) → next_bunch limit d id at t ≡ malformed_at (data_bits d) false t
        unread e = goes_on less {h = unreadable} (ap as_header e)

        pub read_on : {f : BunchFields} {u : Window} → got f u ≡ fields d (rest (data_bits d) at) → next_bunch limit d id at t ≡ compared (data_bits d) f id u.position.0 limit (numbered limit id f t.sequences) t.partials
        read_on e = goes_on less (ap as_header e)
