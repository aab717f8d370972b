-- Document 01's example of a listing, as the definitions write it.
use mathlib.Core.Path.{◌≡◌, refl}
use mathlib.Core.Bool.{Bool, true, false}
use mathlib.Core.List.{[], ◌∷◌}
use Prim.Native.Nat.{ℕ}
use lib.IntN.{ℤ, pos, negsuc}
use Rattle.log_lines.specs.declared.BunchLine.{BunchLine}
use Rattle.log_lines.specs.Decimal.{digits_from, decimal, decimal_signed}
use Rattle.log_lines.specs.Lines.{bunch_line, packet_line, version_line, cut_line}

-- a bunch whose flags are all alike
bunch : ℤ → ℕ → ℤ → Bool → ℕ → ℕ → BunchLine
bunch id channel sequence on count offset =
    record {
      packet_id = id;
      ch_index = channel;
      ch_sequence = sequence;
      b_reliable = on;
      b_partial = on;
      b_partial_initial = on;
      b_partial_final = on;
      payload_bit_count = count;
      payload_bit_offset = offset;
      is_partial_completed = on;
      has_partial_error = false;
      has_channel_limit_error = false;
    }

-- "B 7 3 0 ---- 8 29 -"
first : bunch_line (bunch (pos 7) 3 (pos 0) false 8 29)
    ≡ 66 ∷ 32 ∷ 55 ∷ 32 ∷ 51 ∷ 32 ∷ 48 ∷ 32 ∷ 45 ∷ 45 ∷ 45 ∷ 45 ∷ 32 ∷ 56 ∷ 32 ∷ 50 ∷ 57 ∷ 32 ∷ 45 ∷ 10 ∷ []
unfolding bunch digits_from decimal decimal_signed bunch_line
first = refl

-- "B 8 0 1 RPIF 0 40 K"
second : bunch_line (bunch (pos 8) 0 (pos 1) true 0 40)
    ≡ 66 ∷ 32 ∷ 56 ∷ 32 ∷ 48 ∷ 32 ∷ 49 ∷ 32 ∷ 82 ∷ 80 ∷ 73 ∷ 70 ∷ 32 ∷ 48 ∷ 32 ∷ 52 ∷ 48 ∷ 32 ∷ 75 ∷ 10 ∷ []
unfolding bunch digits_from decimal decimal_signed bunch_line
second = refl

-- "P 7 1 0 0 0"
packet : packet_line (record { packet_id = pos 7; bunches = 1; is_malformed = false; partial_errors = 0; channel_limits = 0 })
    ≡ 80 ∷ 32 ∷ 55 ∷ 32 ∷ 49 ∷ 32 ∷ 48 ∷ 32 ∷ 48 ∷ 32 ∷ 48 ∷ 10 ∷ []
unfolding digits_from decimal decimal_signed packet_line
packet = refl

-- "X 0", and a version 255
cut : cut_line 0 ≡ 88 ∷ 32 ∷ 48 ∷ 10 ∷ []
unfolding digits_from decimal
cut = refl

version : version_line 255 ≡ 86 ∷ 32 ∷ 50 ∷ 53 ∷ 53 ∷ 10 ∷ []
unfolding digits_from decimal
version = refl

-- a number below 0: "-12"
negative : decimal_signed (negsuc 11) ≡ 45 ∷ 49 ∷ 50 ∷ []
unfolding digits_from decimal decimal_signed
negative = refl
