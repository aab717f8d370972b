-- The walk that two words say, and what becomes of a word that says none.
use Rattle.std.specs.Prelude.{ℕ, zero, suc, List, [], ◌∷◌}
use Rattle.bitio_window.specs.declared.Window.{Window}
use Rattle.bitio_window.specs.Refusals.{Refusal}
use Rattle.bitio_window.specs.Parse.{refuse, ◌>>◌}
use Rattle.bitio_window.specs.Reads.{sound}
use Rattle.field_walking.specs.declared.FieldRecord.{FieldRecord}
use Rattle.field_walking.specs.Walks.{Walked, stopped}
use Rattle.field_records.specs.declared.Stream.{Stream}
use Rattle.field_records.specs.Walks.{ListedRecords, listed_records}

-- a number outside the paper's, and the word
abbrev pub no_stream : ℕ → Refusal
no_stream word = record { number = 255; returns = word ∷ [] }

-- "In a read, copy or walk 7 comes first, then 5, 6, 4, 15": a word that says no stream stands in 15's place, and changes no lent byte.
abbrev pub no_walk : ℕ → List ℕ → List (List ℕ) → Window → Walked
no_walk word d ps w = stopped ps ((sound >> refuse (no_stream word)) d w)

unfoldable pub unlisted : ℕ → List ℕ → List FieldRecord → List (List ℕ) → Window → ListedRecords
unlisted word d rs ps w = record { records = rs; walked = no_walk word d ps w }

-- 0, 1 and 2 say a stream; the count is the class net cache's
unfoldable pub listed_by : ℕ → ℕ → List ℕ → List FieldRecord → List (List ℕ) → Window → ListedRecords
listed_by zero count = listed_records Stream.RepLayout
listed_by (suc zero) count = listed_records Stream.RepLayoutContentBlock
listed_by (suc (suc zero)) count = listed_records (Stream.ClassNetCache count)
listed_by (suc (suc (suc n))) count = unlisted (suc (suc (suc n)))
