-- Tables with no channel are sound.
use Rattle.std.proofs.Common.{arith}
use Rattle.listing.proofs.Going.{no_channels}
use Rattle.listing.proofs.main.Goals as goal

pub list-ended-requires : goal.list-ended-requires
list-ended-requires c = (
  record { left = omega (arith, c.output_room-out.ensures) },
  no_channels c.column-sequence_channels.ensures c.column-sequence_numbers.ensures c.column-partial_channels.ensures c.column-partial_sequences.ensures c.column-partial_reliables.ensures,
)
