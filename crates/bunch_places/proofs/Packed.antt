-- Messages packed one behind the other: where one begins, and what the whole is after one is taken out, put in or changed.
use mathlib.Core.Path.{◌≡◌, refl, sym, ap, ◌∙◌}
use mathlib.Core.List.{List, [], ◌∷◌, ◌++◌, append-nil, append_assoc}
use Prim.Native.Nat.{ℕ, suc, ◌+◌, ◌≤◌, ◌<◌}
use native.Mathlib.Omega.{arith}
use lib.ListN.{length, get_or, set, take, drop, take-append-drop, length-append}
use lib.Seq.{take-add, take-suc, take-append-le, take-append_seam, drop-append_seam, drop-cons, set_split}
use Rattle.tables.specs.Columns.{inserted_at, removed_at}
use Rattle.bunch_places.specs.Packed.{joined}

-- where message i begins
abbrev pub start : ℕ → List (List ℕ) → ℕ
start i bs = length (joined (take i bs))

joined_append : (bs cs : List (List ℕ)) → joined (bs ++ cs) ≡ joined bs ++ joined cs
unfolding joined
joined_append [] cs = refl
joined_append (b ∷ bs) cs = ap (λ (t : List ℕ). b ++ t) (joined_append bs cs) ∙ sym (append_assoc b (joined bs) (joined cs))

module _ (bs : List (List ℕ)) (i : ℕ) where
  joined_split : joined bs ≡ joined (take i bs) ++ joined (drop i bs)
  joined_split = ap joined (sym (take-append-drop i bs)) ∙ joined_append (take i bs) (drop i bs)

  pub take_joined : take (start i bs) (joined bs) ≡ joined (take i bs)
  take_joined = ap (λ (t : List ℕ). take (start i bs) t) joined_split ∙ take-append_seam (joined (take i bs)) (joined (drop i bs))

  pub drop_joined : drop (start i bs) (joined bs) ≡ joined (drop i bs)
  drop_joined = ap (λ (t : List ℕ). drop (start i bs) t) joined_split ∙ drop-append_seam (joined (take i bs)) (joined (drop i bs))

  pub start_within : start i bs ≤ length (joined bs)
  start_within = omega (arith, length-append (joined (take i bs)) (joined (drop i bs)), ap length joined_split)

module _ (bs : List (List ℕ)) (i : ℕ) where
  pub joined_removed : joined (removed_at i bs) ≡ take (start i bs) (joined bs) ++ drop (start (suc i) bs) (joined bs)
  unfolding removed_at
  joined_removed = rw (take_joined bs i, drop_joined bs (suc i)) (joined_append (take i bs) (drop (suc i) bs))

  pub joined_inserted : (b : List ℕ) → joined (inserted_at i b bs) ≡ take (start i bs) (joined bs) ++ (b ++ drop (start i bs) (joined bs))
  unfolding inserted_at joined
  joined_inserted b = rw (take_joined bs i, drop_joined bs i) (joined_append (take i bs) (b ∷ drop i bs))

  module _ (h : i < length bs) where
    -- a message stands from its start up to the next one's
    pub start_next : start (suc i) bs ≡ start i bs + length (get_or bs i [])
    unfolding joined
    start_next =
        ap (λ (t : List (List ℕ)). length (joined t)) (take-suc bs i [] h)
        ∙ ap length (joined_append (take i bs) (get_or bs i [] ∷ []))
        ∙ simp (append-nil, length-append)

    kept : (keep : ℕ) → keep ≤ length (get_or bs i []) → take (start i bs + keep) (joined bs) ≡ take (start i bs) (joined bs) ++ take keep (get_or bs i [])
    unfolding joined
    kept keep k =
        take-add (start i bs) keep (joined bs)
        ∙ ap (λ (t : List ℕ). take (start i bs) (joined bs) ++ take keep t) (drop_joined bs i ∙ ap joined (drop-cons bs i [] h))
        ∙ ap (λ (t : List ℕ). take (start i bs) (joined bs) ++ t) (take-append-le keep (get_or bs i []) (joined (drop (suc i) bs)) k)

    pub joined_set : (b : List ℕ) → joined (set bs i b) ≡ take (start i bs) (joined bs) ++ (b ++ drop (start (suc i) bs) (joined bs))
    unfolding joined
    joined_set b = rw (take_joined bs i, drop_joined bs (suc i), set_split bs i b h) (joined_append (take i bs) (b ∷ drop (suc i) bs))

    -- where the first `keep` bytes of the message stay
    pub joined_changed : (keep : ℕ) (b : List ℕ) → keep ≤ length (get_or bs i [])
        → joined (set bs i (take keep (get_or bs i []) ++ b)) ≡ take (start i bs + keep) (joined bs) ++ (b ++ drop (start (suc i) bs) (joined bs))
    joined_changed keep b k = joined_set (take keep (get_or bs i []) ++ b) ∙ rw kept (simp append_assoc)
