-- What 32 or 64 bits are as a float, and 32 bits as a signed number.
use Rattle.std.specs.Prelude.{ℕ, ◌-◌, ◌^◌, cond, ltb, ℤ, pos, negsuc, Float}
use Rattle.std.specs.Float.{Format}
use Rattle.std.specs.Float.Ieee.{of_bits, nan_bits}

-- A number of IEEE 754 (an infinity is one), or the bits of a pattern that stands for none.
pub data Decoded : Type 0 where
  number : Float → Decoded
  no_number : ℕ → Decoded

unfoldable pub decoded : Format → ℕ → Decoded
decoded f b = cond (nan_bits f b) (no_number b) (number (of_bits f b))

-- two's complement of 32 bits: from 2 ^ 31 on, the number less 2 ^ 32
unfoldable pub signed : ℕ → ℤ
signed v = cond (ltb v (2 ^ 31)) (pos v) (negsuc (2 ^ 32 - 1 - v))
