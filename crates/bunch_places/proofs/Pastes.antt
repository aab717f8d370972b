-- What stands in memory after a paste, and what a turn of a copy's loop does to it.
use mathlib.Core.Path.{◌≡◌, refl, sym, ap, ◌∙◌}
use mathlib.Core.List.{List, [], ◌∷◌, ◌++◌}
use Prim.Native.Nat.{ℕ, zero, suc, ◌+◌, ◌-◌, ◌≤◌, ◌<◌}
use native.Mathlib.Nat.{not-suc-le-zero, le_of_suc-le-suc}
use native.Mathlib.Omega.{arith}
use lib.ListN.{length, get_or, set, drop, take-append-drop, length-drop}
use lib.Seq.{length-take-le, take-suc, drop-cons, get_or-drop}
use Rattle.tables.specs.Columns.{laid}
use Rattle.tables.proofs.Columns.{length_laid, laid_take}
use Rattle.bunch_places.specs.Bytes.{pasted, part}

module _ {A : Type 0} where
  pub length_part : (from n : ℕ) (s : List A) → from + n ≤ length s → length (part from n s) ≡ n
  length_part from n s h = length-take-le n (drop from s) (rw length-drop (omega arith))

  pub pasted_none : (at : ℕ) (m : List A) → m ≡ pasted at [] m
  unfolding pasted laid
  pasted_none at m = sym (take-append-drop at m)

  -- what stands at a place, pasted there again
  pub pasted_same : (at n : ℕ) (m : List A) → m ≡ pasted at (part at n m) m
  unfolding pasted
  pasted_same zero n m = sym (laid_take n m)
  pasted_same (suc at) n [] = sym (laid_take n [])
  pasted_same (suc at) n (y ∷ m) = ap (λ (t : List A). y ∷ t) (pasted_same at n m)

  pub length_pasted : (at : ℕ) (b m : List A) → at + length b ≤ length m → length (pasted at b m) ≡ length m
  unfolding pasted
  length_pasted zero b m h = length_laid b m (omega arith)
  length_pasted (suc at) b [] h = absurd (omega arith)
  length_pasted (suc at) b (y ∷ m) h = ap suc (length_pasted at b m (omega arith))

  -- the first byte that is pasted, and one more behind the last
  pub pasted_first : (at : ℕ) (x : A) (b m : List A) → at < length m → set (pasted (suc at) b m) at x ≡ pasted at (x ∷ b) m
  unfolding pasted laid
  pasted_first at x b [] h = absurd (not-suc-le-zero h)
  pasted_first zero x b (y ∷ m) h = refl
  pasted_first (suc at) x b (y ∷ m) h = ap (λ (t : List A). y ∷ t) (pasted_first at x b m (le_of_suc-le-suc h))

  laid_last : (x : A) (b m : List A) → length b < length m → set (laid b m) (length b) x ≡ laid (b ++ (x ∷ [])) m
  unfolding laid
  laid_last x b [] h = absurd (not-suc-le-zero h)
  laid_last x [] (y ∷ m) h = refl
  laid_last x (z ∷ b) (y ∷ m) h = ap (λ (t : List A). z ∷ t) (laid_last x b m (le_of_suc-le-suc h))

  pub pasted_last : (at i : ℕ) (x : A) (b m : List A) → i ≡ at + length b → i < length m → set (pasted at b m) i x ≡ pasted at (b ++ (x ∷ [])) m
  unfolding pasted
  pasted_last at i x b [] e h = absurd (not-suc-le-zero h)
  pasted_last zero i x b (y ∷ m) e h = let f : i ≡ length b = omega arith in rw f (laid_last x b (y ∷ m) (omega arith))
  pasted_last (suc at) zero x b (y ∷ m) e h = absurd (omega arith)
  pasted_last (suc at) (suc i) x b (y ∷ m) e h = ap (λ (t : List A). y ∷ t) (pasted_last at i x b m (omega arith) (le_of_suc-le-suc h))

  -- of the n bytes those from i on have moved
  abbrev pub MovedFrom : ℕ → ℕ → ℕ → ℕ → List A → List A → Type 0
  MovedFrom from to n i m a = a ≡ pasted (to + i) (part (from + i) (n - i) m) m

  pub moves_none : (from to n : ℕ) (m : List A) → MovedFrom from to n n m m
  moves_none from to n m = let e : n - n ≡ 0 = omega arith in rw e (pasted_none (to + n) m)

  pub moves_all : (from to n i : ℕ) (m : List A) {a : List A} → i ≡ 0 → MovedFrom from to n i m a → a ≡ pasted to (part from n m) m
  moves_all from to n i m e o =
      let u : to + i ≡ to = omega arith in
      let v : from + i ≡ from = omega arith in
      let w : n - i ≡ n = omega arith in
      o ∙ rw (u, v, w)

module _ {A : Type 0} (d : A) where
  -- what is not pasted over is as it was
  pub before_pasted : (at i : ℕ) (b m : List A) → i < at → i < length m → get_or (pasted at b m) i d ≡ get_or m i d
  unfolding pasted
  before_pasted at i b [] g h = absurd (not-suc-le-zero h)
  before_pasted zero i b (y ∷ m) g h = absurd (not-suc-le-zero g)
  before_pasted (suc at) zero b (y ∷ m) g h = refl
  before_pasted (suc at) (suc i) b (y ∷ m) g h = before_pasted at i b m (le_of_suc-le-suc g) (le_of_suc-le-suc h)

  behind_laid : (i : ℕ) (b m : List A) → length b ≤ i → i < length m → get_or (laid b m) i d ≡ get_or m i d
  unfolding laid
  behind_laid i [] m g h = refl
  behind_laid i (x ∷ b) [] g h = absurd (not-suc-le-zero h)
  behind_laid zero (x ∷ b) (y ∷ m) g h = absurd (not-suc-le-zero g)
  behind_laid (suc i) (x ∷ b) (y ∷ m) g h = behind_laid i b m (le_of_suc-le-suc g) (le_of_suc-le-suc h)

  pub behind_pasted : (at i : ℕ) (b m : List A) → at + length b ≤ i → i < length m → get_or (pasted at b m) i d ≡ get_or m i d
  unfolding pasted
  behind_pasted at i b [] g h = absurd (not-suc-le-zero h)
  behind_pasted zero i b (y ∷ m) g h = behind_laid i b (y ∷ m) (omega arith) h
  behind_pasted (suc at) zero b (y ∷ m) g h = absurd (omega arith)
  behind_pasted (suc at) (suc i) b (y ∷ m) g h = behind_pasted at i b m (omega arith) (le_of_suc-le-suc h)

  part_last : (from i : ℕ) (s : List A) → from + i < length s → part from (suc i) s ≡ part from i s ++ (get_or s (from + i) d ∷ [])
  part_last from i s h = take-suc (drop from s) i d (rw length-drop (omega arith)) ∙ ap (λ (x : A). part from i s ++ (x ∷ [])) (get_or-drop from s i d)

  -- a byte more, from below
  pub copies_on : (from at i j : ℕ) (s m : List A) → j ≡ suc i → from + i < length s → at + i < length m
      → set (pasted at (part from i s) m) (at + i) (get_or s (from + i) d) ≡ pasted at (part from j s) m
  copies_on from at i j s m e g h =
      pasted_last at (at + i) (get_or s (from + i) d) (part from i s) m (ap (λ (k : ℕ). at + k) (sym (length_part from i s (omega arith)))) h
      ∙ ap (λ (b : List A). pasted at b m) (sym (part_last from i s g))
      ∙ ap (λ (k : ℕ). pasted at (part from k s) m) (sym e)

  -- and where the bytes come from memory itself, they are not yet written over
  pub moves_down : (from to i j : ℕ) (m : List A) → j ≡ suc i → to ≤ from → from + i < length m
      → set (pasted to (part from i m) m) (to + i) (get_or (pasted to (part from i m) m) (from + i) d) ≡ pasted to (part from j m) m
  moves_down from to i j m e g h =
      let l = length_part from i m (omega arith) in
      ap (λ (x : A). set (pasted to (part from i m) m) (to + i) x) (behind_pasted to (from + i) (part from i m) m (omega arith) h)
      ∙ copies_on from to i j m m e h (omega arith)

  -- a byte more, from above
  pub moves_up : (from to n i j : ℕ) (m : List A) {a : List A} → i ≡ suc j → i ≤ n → from ≤ to → to + n ≤ length m
      → MovedFrom from to n i m a → MovedFrom from to n j m (set a (to + j) (get_or a (from + j) d))
  moves_up from to n i j m e f g h o =
      let u : to + i ≡ suc (to + j) = omega arith in
      let v : from + i ≡ suc (from + j) = omega arith in
      let w : n - j ≡ suc (n - i) = omega arith in
      let b : List A = part (from + i) (n - i) m in
      ap (λ (t : List A). set t (to + j) (get_or t (from + j) d)) (o ∙ ap (λ (k : ℕ). pasted k b m) u)
      ∙ ap (λ (x : A). set (pasted (suc (to + j)) b m) (to + j) x) (before_pasted (suc (to + j)) (from + j) b m (omega arith) (omega arith))
      ∙ pasted_first (to + j) (get_or m (from + j) d) b m (omega arith)
      ∙ ap (λ (t : List A). pasted (to + j) t m) (rw (w, drop-cons m (from + j) d (omega arith), v))
