-- The reader's tables in lent memory: five columns, of which the first places count, by ascending channel.
use Rattle.std.specs.Prelude.{ℕ, Bool, ◌&&◌, List, leb, length, take, ◌≡◌}
use Rattle.tables.specs.Columns.{laid, ascending}
use Rattle.tables.specs.Tables.{channels, values}
use Rattle.types.specs.Types.{most_channels}
use Rattle.packet_reading.specs.declared.RawPacketReader.{RawPacketReader}
use Rattle.packet_reading.specs.declared.ReaderColumns.{ReaderColumns}
use Rattle.packet_reading.specs.Packet.{ReaderTables}
use Rattle.packet_tracking.specs.SequenceColumns.{sequences_at}
use Rattle.packet_tracking.specs.PartialColumns.{partials_at, sequences_in_flight, reliables_in_flight}

-- a reader of its limit, and how many places of each table count
abbrev pub reader_of : ℕ → ℕ → ℕ → RawPacketReader
reader_of limit sequences partials = record { max_channels = limit; live_sequences = sequences; live_partials = partials }

pub record ReaderMemory : Type 0 where
  pub sequence_channels : List ℕ
  pub sequence_numbers : List ℕ
  pub partial_channels : List ℕ
  pub partial_sequences : List ℕ
  pub partial_reliables : List ℕ

abbrev pub reader_memory : List ℕ → List ℕ → List ℕ → List ℕ → List ℕ → ReaderMemory
reader_memory a b c d e =
    record {
      sequence_channels = a;
      sequence_numbers = b;
      partial_channels = c;
      partial_sequences = d;
      partial_reliables = e;
    }

-- what lent columns hold
abbrev pub columns_memory : ReaderColumns → ReaderMemory
columns_memory c =
    reader_memory c.sequence_channels.now c.sequence_numbers.now c.partial_channels.now c.partial_sequences.now c.partial_reliables.now

-- A call writes to the columns that it was lent, and puts no others in their place.
pub record SameColumns (c d : ReaderColumns) : Type 0 where
  pub sequence_channels : d.sequence_channels.ghost_name ≡ c.sequence_channels.ghost_name
  pub sequence_numbers : d.sequence_numbers.ghost_name ≡ c.sequence_numbers.ghost_name
  pub partial_channels : d.partial_channels.ghost_name ≡ c.partial_channels.ghost_name
  pub partial_sequences : d.partial_sequences.ghost_name ≡ c.partial_sequences.ghost_name
  pub partial_reliables : d.partial_reliables.ghost_name ≡ c.partial_reliables.ghost_name

-- the tables that the first s and the first p places hold
unfoldable pub tables_of : ℕ → ℕ → ReaderMemory → ReaderTables
tables_of s p m =
    record {
      sequences = sequences_at s m.sequence_channels m.sequence_numbers;
      partials = partials_at p m.partial_channels m.partial_sequences m.partial_reliables;
    }

-- the tables put first, and the rest as it was
unfoldable pub tables_laid_in : ReaderTables → ReaderMemory → ReaderMemory
tables_laid_in t m =
    record {
      sequence_channels = laid (channels t.sequences) m.sequence_channels;
      sequence_numbers = laid (values t.sequences) m.sequence_numbers;
      partial_channels = laid (channels t.partials) m.partial_channels;
      partial_sequences = laid (sequences_in_flight t.partials) m.partial_sequences;
      partial_reliables = laid (reliables_in_flight t.partials) m.partial_reliables;
    }

-- "the limit at most 4,096 and the lent tables' size"
abbrev pub tables_fitting : ℕ → ℕ → ℕ → ℕ → ℕ → ℕ → Bool
tables_fitting limit a b c d e = leb limit most_channels && leb limit a && leb limit b && leb limit c && leb limit d && leb limit e

unfoldable pub tables_fit : ℕ → ReaderMemory → Bool
tables_fit limit m =
    tables_fitting limit (length m.sequence_channels) (length m.sequence_numbers) (length m.partial_channels)
    (length m.partial_sequences) (length m.partial_reliables)

-- "no channel twice, each within the limit"
unfoldable pub tables_sound : ℕ → ℕ → ℕ → ReaderMemory → Bool
tables_sound limit s p m =
    (tables_fit limit m && leb s limit && leb p limit)
    && (ascending (take s m.sequence_channels) && ascending (take p m.partial_channels))

-- of a reader's own limit and counts
abbrev pub reader_tables : RawPacketReader → ReaderMemory → ReaderTables
reader_tables r m = tables_of r.live_sequences r.live_partials m

abbrev pub reader_sound : RawPacketReader → ReaderMemory → Bool
reader_sound r m = tables_sound r.max_channels r.live_sequences r.live_partials m
