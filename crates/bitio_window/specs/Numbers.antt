-- What a read of a number of variable length means, by document 01's "Bits and numbers" and its rules of refusing.
use Rattle.std.specs.Prelude.{ℕ, zero, suc, ◌+◌, ◌*◌, ◌/◌, ◌%◌, ◌^◌, cond, leb, ltb, eqb}
use Rattle.bitio_window.specs.declared.Place.{Place}
use Rattle.bitio_window.specs.Refusals.{endless, too_large, zero_maximum}
use Rattle.bitio_window.specs.Parse.{Parse, ◌>>=◌, ◌>>◌, give, refuse_if, read_if, place}
use Rattle.bitio_window.specs.Reads.{sound, bits}

-- "Packed: bytes of seven value bits, low bit meaning "more", least significant first, at most five. In the fifth byte refusal 2
-- goes before 3."
-- The first argument counts the bytes that may come before the fifth.
unfoldable pub packed_from : ℕ → Place → Parse ℕ
packed_from zero start = do
  byte ← bits 8
  refuse_if (eqb (byte % 2) 1) (endless start)
  refuse_if (ltb 15 (byte / 2)) (too_large start)
  give (byte / 2)
packed_from (suc n) start = do
  byte ← bits 8
  rest ← read_if (eqb (byte % 2) 1) 0 (packed_from n start)
  give (byte / 2 + 128 * rest)

unfoldable pub packed : Parse ℕ
packed = do
  start ← place
  packed_from 4 start

-- "the floor of log2 m": the largest w with 2 ^ w ≤ m, for an m from 1 to 2 ^ 32 - 1
abbrev pub log2_up_to : ℕ → ℕ → ℕ
log2_up_to zero m = 0
log2_up_to (suc w) m = cond (leb (2 ^ suc w) m) (suc w) (log2_up_to w m)

unfoldable pub log2 : ℕ → ℕ
log2 m = log2_up_to 31 m

-- "Serialized with maximum m: let w be the floor of log2 m. Read w bits as v. If v + 2^w >= m, the answer is v; else one more bit
-- adds 2^w."
unfoldable pub serialized : ℕ → Parse ℕ
serialized m = do
  v ← bits (log2 m)
  top ← read_if (ltb (v + 2 ^ log2 m) m) 0 (bits 1)
  give (v + top * 2 ^ log2 m)

-- "7 comes first, then 5, 6, 4, 15, then 1": the public calls
unfoldable pub read_packed : Parse ℕ
read_packed = do
  sound
  packed

unfoldable pub read_serialized : ℕ → Parse ℕ
read_serialized m = do
  sound
  refuse_if (eqb m 0) (zero_maximum m)
  serialized m
