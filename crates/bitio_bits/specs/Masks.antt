-- A table of masks: one rule over all entries.
use Rattle.std.specs.Prelude.{Bool, true, ◌&&◌, List, [], ◌∷◌, ℕ, suc, ◌-◌, ◌^◌, eqb}

-- the masks of k bits, of k + 1 bits, and so on
abbrev pub masks_from : ℕ → List ℕ → Bool
masks_from k [] = true
masks_from k (x ∷ l) = eqb x (2 ^ k - 1) && masks_from (suc k) l
