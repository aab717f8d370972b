-- Bits as a word: what the contracts of `inner` name. A reader of the public calls can pass over it.
use Rattle.std.specs.Prelude.{ℕ, ◌+◌, ◌^◌, ◌<◌, ◌≤◌, ◌≡◌, Bool, List, ◌++◌}
use Rattle.writer_spelling.specs.declared.inner.Bits.{Bits}
use Rattle.writer_spelling.specs.Bits.{number_bits}

abbrev pub spelt : Bits → List Bool
spelt b = number_bits b.count b.word

-- no bit above those that count
pub record Whole (b : Bits) : Type 0 where
  pub within : b.word < 2 ^ b.count

-- the bits after those that are there, `most` of them at most
pub record Adds (most : ℕ) (q : Bits) (bits : List Bool) (r : Bits) : Type 0 where
  pub spells : spelt r ≡ spelt q ++ bits
  pub whole : Whole r
  pub grows : r.count ≤ q.count + most

-- what is not wanted is no bits
abbrev pub nothing : Bits
nothing = record { word = 0; count = 0 }

-- a word that can be pushed at any bit: not empty, and within 64 bits with those before the cursor in its byte
pub record Piece (b : Bits) : Type 0 where
  pub whole : Whole b
  pub some : 0 < b.count
  pub short : b.count ≤ 57
