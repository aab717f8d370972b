-- What a drain shows of one place, for the contracts of `inner`.
use Rattle.std.specs.Prelude.{ℕ, Bool, cond, List, [], ◌∷◌, eqb, get_or, drop}
use Rattle.bunch_held.specs.Memory.{bits_in_place, size_of}

abbrev pub is_finished : List ℕ → Bool
is_finished p = eqb (get_or p 1 0) 1

-- how many messages, and how many bytes
unfoldable pub shown_count : List ℕ → ℕ
shown_count p = cond (is_finished p) 0 1

unfoldable pub shown_size : List ℕ → ℕ
shown_size p = cond (is_finished p) 0 (size_of p)

-- the message's bytes, and its place in the list
unfoldable pub shown_bytes : List ℕ → List ℕ → List ℕ
shown_bytes p bytes = cond (is_finished p) [] bytes

unfoldable pub shown_place : ℕ → List ℕ → List (List ℕ)
shown_place channel p = cond (is_finished p) [] ((channel ∷ bits_in_place p ∷ drop 4 p) ∷ [])
