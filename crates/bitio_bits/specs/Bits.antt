-- Bits of a list of bytes.
use Rattle.std.specs.Prelude.{ℕ, zero, suc, ◌+◌, ◌*◌, ◌/◌, ◌%◌, ◌^◌, List, get_or}

-- "Bit k is bit k mod 8, lowest first, of byte k div 8."
unfoldable pub bit_at : List ℕ → ℕ → ℕ
bit_at d k = get_or d (k / 8) 0 / 2 ^ (k % 8) % 2

-- the number that the n bits from bit k on make, lowest first
unfoldable pub bits_at : List ℕ → ℕ → ℕ → ℕ
bits_at d k zero = 0
bits_at d k (suc n) = bit_at d k + 2 * bits_at d (k + 1) n
