-- The number after a sequence, and whether a fragment continues what is in flight. Sequences are held as words, the two's
-- complement of 32 bits.
use Rattle.std.specs.Prelude.{ℕ, ◌+◌, ◌%◌, ◌^◌, Bool, true, false, not, ◌&&◌, ◌||◌, eqb}

-- "After 2,147,483,647"
abbrev pub last_sequence : ℕ
last_sequence = 2147483647

unfoldable pub following : ℕ → ℕ
following word = (word + 1) % 2 ^ 32

-- what is in flight on a channel: the last fragment's sequence, and a word that is 0 where it is not reliable
abbrev pub Partial : Type 0
Partial = ℕ × ℕ

abbrev pub sequence_of : Partial → ℕ
sequence_of p = p.0

abbrev pub reliable_of : Partial → ℕ
reliable_of p = p.1

abbrev pub is_reliable : Partial → Bool
is_reliable p = not (eqb (reliable_of p) 0)

-- "Continuing means previous + 1, or for unreliable also equal; reliability must agree."
abbrev pub agree : Bool → Bool → Bool
agree true b = b
agree false b = not b

unfoldable pub continues : Partial → Bool → ℕ → Bool
continues p reliable sequence =
    agree (is_reliable p) reliable
    && ((not (eqb (sequence_of p) last_sequence) && eqb sequence (following (sequence_of p)))
    || (not reliable && eqb sequence (sequence_of p)))
