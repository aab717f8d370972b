-- Words of eight bytes: what the contracts of `inner` name. A reader of the public calls can pass over it.
use Rattle.std.specs.Prelude.{ℕ, zero, suc, ◌+◌, ◌*◌, ◌/◌, ◌%◌, ◌^◌, ◌≤◌, ◌≡◌, List, get_or, set}
use Rattle.bitio_bits.specs.Bits.{bits_at}

-- eight bytes from byte i on as one number, lowest first
abbrev pub eight_at : List ℕ → ℕ → ℕ
eight_at d i =
    get_or d i 0
    + 256 * get_or d (i + 1) 0
    + 65536 * get_or d (i + 2) 0
    + 16777216 * get_or d (i + 3) 0
    + 4294967296 * get_or d (i + 4) 0
    + 1099511627776 * get_or d (i + 5) 0
    + 281474976710656 * get_or d (i + 6) 0
    + 72057594037927936 * get_or d (i + 7) 0

-- a word whose low 57 bits are those from bit k on
pub record Peeked (d : List ℕ) (k x : ℕ) : Type 0 where
  pub field : (j n : ℕ) → j + n ≤ 57 → x / 2 ^ j % 2 ^ n ≡ bits_at d (k + j) n

-- the m lowest bytes of a word, from place i of a list on
unfoldable pub stored : List ℕ → ℕ → ℕ → ℕ → List ℕ
stored l i word zero = l
stored l i word (suc m) = stored (set l i (word % 256)) (i + 1) (word / 256) m
