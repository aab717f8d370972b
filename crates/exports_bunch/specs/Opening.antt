-- What an opening answers, as five words.
use Rattle.std.specs.Prelude.{ℕ, List, [], ◌∷◌, Result, Ok, Err}
use Rattle.bitio_window.specs.Refusals.{Refusal}
use Rattle.bunch_held.specs.declared.Accumulator.{Accumulator}

-- 0 or the refusal's number; the limits and the counts
unfoldable pub limits_words : Result Accumulator Refusal → List ℕ
limits_words (Ok a) = 0 ∷ a.max_active ∷ a.max_buffered_bits ∷ a.active ∷ a.total_buffered_bits ∷ []
limits_words (Err r) = r.number ∷ 0 ∷ 0 ∷ 0 ∷ 0 ∷ []
