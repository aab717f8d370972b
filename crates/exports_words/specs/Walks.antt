-- A walk's answer as eight words: the seven of its stop, then how many records it wrote, also where it refuses.
use Rattle.std.specs.Prelude.{ℕ, List, [], ◌∷◌, ◌++◌}
use Rattle.field_walking.specs.Walks.{Stop, ended, tail, abandoned, Walked}
use Rattle.exports_words.specs.Words.{words}

-- which stop, and its bits
abbrev pub stop_words : Stop → List ℕ
stop_words ended = 0 ∷ []
stop_words (tail n) = 1 ∷ n ∷ []
stop_words (abandoned n) = 2 ∷ n ∷ []

abbrev pub walk_words : Walked → List ℕ
walk_words x = words stop_words x.answer ++ (x.count ∷ [])
