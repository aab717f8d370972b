-- A turn from the header on: what numbering left, and the payload compared with what remains.
use Prim.Native.Nat.{ℕ, ◌-◌, ◌≤◌, ◌<◌}
use mathlib.Core.Path.{◌≡◌, ap}
use mathlib.Core.List.{List}
use lib.ListN.{length, length-map}
use borrow.Author.Tests.{le-ltb, lt-ltb}
use Rattle.tables.specs.Columns.{laid}
use Rattle.tables.specs.Tables.{Table, channels, values}
use Rattle.tables.proofs.Columns.{laid_twice}
use Rattle.packet_header.specs.declared.BunchFields.{BunchFields}
use Rattle.packet_tracking.specs.declared.inner.sequences.Numbered as I
use Rattle.packet_tracking.specs.Sequences.{Numbered, numbered}
use Rattle.packet_reading.specs.Packet.{malformed, whole}
use Rattle.packet_tracking.specs.SequenceColumns.{sequences_at, NumberedIn, numbered_in, sequences_laid}
use Rattle.packet_reading.specs.Memory.{ReaderMemory, reader_memory, tables_of, tables_laid_in}
use Rattle.packet_reading.specs.State.{TablesSound}
use Rattle.packet_reading.specs.Turns.{stopping, settles, finishes}
use Rattle.packet_reading.proofs.Reading.{partials_held, same_partials}
use Rattle.tables.proofs.Kept.{Kept}
use Rattle.packet_tracking.proofs.Kept.{kept_fits, kept_size, sequences_kept, numbered_kept, sequences_back}

module _ {limit s p : ℕ} {m : ReaderMemory} (state : TablesSound limit s p m) (f : BunchFields) (id at end : ℕ) where
  abbrev S : Table ℕ
  S = sequences_at s m.sequence_channels m.sequence_numbers

  abbrev N : Numbered
  N = numbered limit id f S

  kept : Kept limit N.table
  kept = numbered_kept S (sequences_kept m.sequence_channels state.sequences m.sequence_numbers state.numbers) id f

  -- by what numbering left
  module _ (n : I.Numbered) (left : ℕ) (sc sn : List ℕ) (e : numbered_in n left sc sn ≡ sequences_laid N m.sequence_channels m.sequence_numbers) where
    live : left ≡ length N.table
    live = ap (λ (x : NumberedIn). x.live) e

    sequence : n.sequence ≡ N.sequence
    sequence = ap (λ (x : NumberedIn). x.sequence) e

    limited : n.limited ≡ N.limited
    limited = ap (λ (x : NumberedIn). x.limited) e

    channels_are : sc ≡ laid (channels N.table) m.sequence_channels
    channels_are = ap (λ (x : NumberedIn). x.channels) e

    numbers_are : sn ≡ laid (values N.table) m.sequence_numbers
    numbers_are = ap (λ (x : NumberedIn). x.numbers) e

    abbrev after : ReaderMemory
    after = reader_memory sc sn m.partial_channels m.partial_sequences m.partial_reliables

    pub numbered_state : TablesSound limit left p after
    numbered_state =
        record {
          sequences = rw (live, channels_are) (kept_fits N.table kept m.sequence_channels state.sequences);
          numbers = rw (numbers_are, kept_size N.table kept (values N.table) m.sequence_numbers (length-map N.table (λ (x : ℕ × ℕ). x.1)) state.numbers) state.numbers;
          partials = state.partials;
          partial_sequences = state.partial_sequences;
          partial_reliables = state.partial_reliables;
        }

    pub overrun : end - at < f.payload_bit_count → stopping malformed end 1 n.limited left p after ≡ finishes limit s p end f id at m
    unfolding finishes tables_of tables_laid_in
    overrun h =
        let q = same_partials state in
        rw (
          lt-ltb (end - at) f.payload_bit_count h,
          laid_twice (channels N.table) m.sequence_channels,
          laid_twice (values N.table) m.sequence_numbers,
          q.channels_same,
          q.sequences_same,
          q.reliables_same,
          q.channels_same,
          q.sequences_same,
          q.reliables_same,
          (partials_held state).size,
          live,
          limited,
          channels_are,
          numbers_are,
        )

    pub fits : f.payload_bit_count ≤ end - at → settles limit left p f id at n.sequence n.limited after ≡ finishes limit s p end f id at m
    unfolding settles finishes whole tables_of tables_laid_in
    fits h =
        rw (
          le-ltb (end - at) f.payload_bit_count h,
          live,
          sequence,
          limited,
          channels_are,
          numbers_are,
          sequences_back N.table m.sequence_channels m.sequence_numbers,
          laid_twice (channels N.table) m.sequence_channels,
          laid_twice (values N.table) m.sequence_numbers,
        )
