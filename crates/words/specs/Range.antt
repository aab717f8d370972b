-- What a header's types say of its numbers.
use Rattle.std.specs.Prelude.{◌^◌, ◌<◌}
use Rattle.std.specs.Int.{w32}
use Rattle.std.proofs.Common.{SFits}
use Rattle.types.specs.declared.RawBunchHeader.{RawBunchHeader}

-- each number within its field's type
pub record InRange (h : RawBunchHeader) : Type 0 where
  pub packet_id : SFits w32 h.packet_id
  pub ch_index : h.ch_index < 2 ^ 32
  pub ch_sequence : SFits w32 h.ch_sequence
  pub payload_bit_count : h.payload_bit_count < 2 ^ 32
  pub payload_bit_offset : h.payload_bit_offset < 2 ^ 64
