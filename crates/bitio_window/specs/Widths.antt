-- How many bits a serialized number takes. What the contracts of `inner` name; a reader of the public calls can pass over it.
use Rattle.std.specs.Prelude.{ℕ, ◌+◌, ◌%◌, ◌^◌, cond, ltb}
use Rattle.bitio_window.specs.Numbers.{log2}

-- "Read w bits as v. If v + 2^w >= m, the answer is v; else one more bit": v is the lowest bits of the number that is written, or of
-- the word that it is read from
unfoldable pub serialized_width : ℕ → ℕ → ℕ
serialized_width m x = log2 m + cond (ltb (x % 2 ^ log2 m + 2 ^ log2 m) m) 1 0
