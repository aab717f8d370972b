-- What the test of the lent tables leaves true of both: what `inner` requires.
use Rattle.std.specs.Prelude.{ℕ, ◌≤◌, length}
use Rattle.packet_tracking.specs.Fits.{TableFits}
use Rattle.packet_reading.specs.declared.RawPacketReader.{RawPacketReader}
use Rattle.packet_reading.specs.Memory.{ReaderMemory}

-- both tables
pub record TablesSound (limit s p : ℕ) (m : ReaderMemory) : Type 0 where
  pub sequences : TableFits limit s m.sequence_channels
  pub numbers : limit ≤ length m.sequence_numbers
  pub partials : TableFits limit p m.partial_channels
  pub partial_sequences : limit ≤ length m.partial_sequences
  pub partial_reliables : limit ≤ length m.partial_reliables

-- of a reader's own limit and counts
abbrev pub ReaderSound : RawPacketReader → ReaderMemory → Type 0
ReaderSound r m = TablesSound r.max_channels r.live_sequences r.live_partials m
