-- What a drain answers, as six words.
use Rattle.std.specs.Prelude.{ℕ, List, [], ◌∷◌, length, get_or, Result, Ok, Err}
use Rattle.bitio_window.specs.Refusals.{Refusal}
use Rattle.bunch_held.specs.declared.Accumulator.{Accumulator}
use Rattle.bunch_held.specs.Memory.{HeldMemory, bytes_all}
use Rattle.bunch_held.specs.Calls.{held_by}
use Rattle.bunch.specs.Draining.{DrainReply, unfinished}

-- how many bytes of unfinished messages the memory holds
abbrev pub shown_byte_count : Accumulator → HeldMemory → ℕ
shown_byte_count a m = length (bytes_all (unfinished (held_by a m)))

-- 0 and the two counts, or the refusal's number and what it returns; words 2 and 3 are how many places and bits then count
abbrev pub drain_words : Result ℕ Refusal → Accumulator → ℕ → List ℕ
drain_words (Ok n) a bytes = 0 ∷ 0 ∷ a.active ∷ a.total_buffered_bits ∷ n ∷ bytes ∷ []
drain_words (Err r) a bytes = r.number ∷ get_or r.returns 0 0 ∷ a.active ∷ a.total_buffered_bits ∷ 0 ∷ 0 ∷ []

unfoldable pub drained_words : DrainReply → ℕ → List ℕ
drained_words x bytes = drain_words x.answer x.accumulator bytes
