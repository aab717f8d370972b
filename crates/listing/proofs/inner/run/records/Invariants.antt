use Rattle.packet_reading.specs.Memory.{columns_memory, SameColumns}
use Rattle.listing.proofs.Going.{Going}
use Rattle.listing.proofs.inner.run.records.Given as goal

abbrev pub invariant-records : goal.invariant-records
invariant-records g l =
    Going l.fn.buffer l.fn.out l.buffer l.out l.part l.at l.used (columns_memory l.columns) l.live_sequences l.live_partials
    × SameColumns l.fn.columns l.columns
