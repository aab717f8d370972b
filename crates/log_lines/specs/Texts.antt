-- What writing a text does to a lent slice.
use Rattle.std.specs.Prelude.{ℕ, ◌+◌, List, [], ◌∷◌, set}

-- a text's bytes one after another from a place on, and all other bytes as they were
unfoldable pub written : List ℕ → ℕ → List ℕ → List ℕ
written out at [] = out
written out at (b ∷ text) = written (set out at b) (at + 1) text
