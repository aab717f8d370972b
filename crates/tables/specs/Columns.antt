-- A column in lent memory: the values that are held stand first.
use Rattle.std.specs.Prelude.{Bool, true, ◌&&◌, List, [], ◌∷◌, ◌++◌, ℕ, suc, ltb, length, take, drop}

module _ {A : Type 0} where
  -- what is held, and the rest as it was
  unfoldable pub laid : List A → List A → List A
  laid s m = s ++ drop (length s) m

  -- what stood from place i on moves up by one
  unfoldable pub inserted_at : ℕ → A → List A → List A
  inserted_at i x l = take i l ++ (x ∷ drop i l)

  -- what stood after place i moves down by one
  unfoldable pub removed_at : ℕ → List A → List A
  removed_at i l = take i l ++ drop (suc i) l

-- two columns as one, place by place
unfoldable pub beside : {A B : Type 0} → List A → List B → List (A × B)
beside [] k = []
beside (x ∷ l) [] = []
beside (x ∷ l) (y ∷ k) = (x, y) ∷ beside l k

unfoldable pub above : ℕ → List ℕ → Bool
above x [] = true
above x (y ∷ l) = ltb x y && above y l

-- each is above the one before it, so none stands twice
unfoldable pub ascending : List ℕ → Bool
ascending [] = true
ascending (x ∷ l) = above x l
