-- A bunch's line in two halves: what the contracts of `inner` name.
use Rattle.std.specs.Prelude.{ℕ, List, [], ◌∷◌, ◌++◌}
use Rattle.log_lines.specs.Decimal.{decimal, decimal_signed}
use Rattle.log_lines.specs.declared.BunchLine.{BunchLine}
use Rattle.log_lines.specs.Lines.{spaced_fields, flags, state}

abbrev pub bunch_names : BunchLine → List ℕ
bunch_names b = 66 ∷ ((32 ∷ decimal_signed b.packet_id) ++ ((32 ∷ decimal b.ch_index) ++ (32 ∷ decimal_signed b.ch_sequence)))

abbrev pub bunch_payload : BunchLine → List ℕ
bunch_payload b = spaced_fields (flags b ∷ decimal b.payload_bit_count ∷ decimal b.payload_bit_offset ∷ (state b ∷ []) ∷ [])
