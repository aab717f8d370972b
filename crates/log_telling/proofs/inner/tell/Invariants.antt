use Prim.Native.Nat.{◌-◌}
use mathlib.Core.Path.{◌≡◌}
use mathlib.Core.Bool.{true}
use Rattle.packet_reading.specs.Packet.{data_bits}
use Rattle.packet_reading.specs.Memory.{columns_memory, SameColumns, reader_tables}
use Rattle.packet_reading.specs.State.{ReaderSound}
use Rattle.log_telling.specs.Listed.{listed_packet}
use Rattle.log_telling.proofs.Telling.{Telling}
use Rattle.log_telling.proofs.inner.tell.Given as goal

abbrev pub invariant-loop-header : goal.invariant-loop-header
invariant-loop-header l =
    let m = columns_memory l.columns in
    let m₀ = columns_memory l.initial.columns in
    let limit = l.initial.reader.max_channels in
    ReaderSound l.reader m
    × (l.reader.max_channels ≡ limit)
    × SameColumns l.initial.columns l.columns
    × Telling limit l.packet l.id (listed_packet limit l.packet l.id (reader_tables l.initial.reader m₀)) l.initial.out l.used l.out l.end (reader_tables l.reader m) l.at.0 l.sums true

abbrev pub decreases-loop-header : goal.decreases-loop-header
decreases-loop-header l = data_bits l.packet - l.at.0
