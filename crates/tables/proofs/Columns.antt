-- Laws of columns: what is laid is read back; insertion, removal and replacement keep step in columns that stand side by side.
use mathlib.Core.Path.{◌≡◌, refl, sym, ap}
use mathlib.Core.List.{List, [], ◌∷◌, map}
use Prim.Native.Nat.{ℕ, zero, suc, ◌≤◌, ◌<◌}
use native.Mathlib.Nat.{not-suc-le-zero, le_of_suc-le-suc}
use native.Mathlib.Omega.{arith}
use lib.ListN.{length, get_or, set, take, drop}
use lib.Seq.{take-append_seam, drop-append_seam}
use Rattle.tables.specs.Columns.{laid, inserted_at, removed_at, beside}

module _ {A : Type 0} where
  pub take_laid : (s m : List A) → take (length s) (laid s m) ≡ s
  unfolding laid
  take_laid s m = take-append_seam s (drop (length s) m)

  pub length_laid : (s m : List A) → length s ≤ length m → length (laid s m) ≡ length m
  unfolding laid
  length_laid [] m h = refl
  length_laid (x ∷ s) [] h = absurd (not-suc-le-zero h)
  length_laid (x ∷ s) (y ∷ m) h = ap suc (length_laid s m (le_of_suc-le-suc h))

  pub laid_take : (n : ℕ) (m : List A) → laid (take n m) m ≡ m
  unfolding laid
  laid_take zero m = refl
  laid_take (suc n) [] = refl
  laid_take (suc n) (x ∷ m) = ap (λ (t : List A). x ∷ t) (laid_take n m)

  pub laid_twice : (s m : List A) → laid s (laid s m) ≡ laid s m
  unfolding laid
  laid_twice s m = rw (drop-append_seam s (drop (length s) m))

  pub laid_set : (n i : ℕ) (x : A) (m : List A) → i < n → set m i x ≡ laid (set (take n m) i x) m
  unfolding laid
  laid_set zero i x m h = absurd (not-suc-le-zero h)
  laid_set (suc n) i x [] h = refl
  laid_set (suc n) zero x (y ∷ m) h = ap (λ (t : List A). x ∷ t) (sym (laid_take n m))
  laid_set (suc n) (suc i) x (y ∷ m) h = ap (λ (t : List A). y ∷ t) (laid_set n i x m (le_of_suc-le-suc h))

  pub length_inserted : (i : ℕ) (x : A) (l : List A) → i ≤ length l → length (inserted_at i x l) ≡ suc (length l)
  unfolding inserted_at
  length_inserted zero x l h = refl
  length_inserted (suc i) x [] h = absurd (not-suc-le-zero h)
  length_inserted (suc i) x (y ∷ l) h = ap suc (length_inserted i x l (le_of_suc-le-suc h))

  pub length_removed : (i : ℕ) (l : List A) → i < length l → suc (length (removed_at i l)) ≡ length l
  unfolding removed_at
  length_removed i [] h = absurd (not-suc-le-zero h)
  length_removed zero (y ∷ l) h = refl
  length_removed (suc i) (y ∷ l) h = ap suc (length_removed i l (le_of_suc-le-suc h))

module _ {A B : Type 0} where
  pub inserted_map : (f : A → B) (i : ℕ) (x : A) (l : List A) → map f (inserted_at i x l) ≡ inserted_at i (f x) (map f l)
  unfolding inserted_at
  inserted_map f zero x l = refl
  inserted_map f (suc i) x [] = refl
  inserted_map f (suc i) x (y ∷ l) = ap (λ (t : List B). f y ∷ t) (inserted_map f i x l)

  pub removed_map : (f : A → B) (i : ℕ) (l : List A) → map f (removed_at i l) ≡ removed_at i (map f l)
  unfolding removed_at
  removed_map f zero [] = refl
  removed_map f zero (y ∷ l) = refl
  removed_map f (suc i) [] = refl
  removed_map f (suc i) (y ∷ l) = ap (λ (t : List B). f y ∷ t) (removed_map f i l)

  beside_nothing : (l : List A) → ◌≡◌ {A = List (A × B)} (beside l []) []
  unfolding beside
  beside_nothing [] = refl
  beside_nothing (x ∷ l) = refl

  pub inserted_beside : (i : ℕ) (a : A) (b : B) (l : List A) (k : List B) → i ≤ length l → i ≤ length k
      → inserted_at i (a, b) (beside l k) ≡ beside (inserted_at i a l) (inserted_at i b k)
  unfolding inserted_at beside
  inserted_beside zero a b l k g h = refl
  inserted_beside (suc i) a b [] k g h = absurd (not-suc-le-zero g)
  inserted_beside (suc i) a b (x ∷ l) [] g h = absurd (not-suc-le-zero h)
  inserted_beside (suc i) a b (x ∷ l) (y ∷ k) g h =
      ap (λ (t : List (A × B)). (x, y) ∷ t) (inserted_beside i a b l k (le_of_suc-le-suc g) (le_of_suc-le-suc h))

  pub removed_beside : (i : ℕ) (l : List A) (k : List B) → removed_at i (beside l k) ≡ beside (removed_at i l) (removed_at i k)
  unfolding removed_at beside
  removed_beside zero [] k = refl
  removed_beside (suc i) [] k = refl
  removed_beside zero (x ∷ l) [] = sym (beside_nothing l)
  removed_beside (suc i) (x ∷ l) [] = refl
  removed_beside zero (x ∷ l) (y ∷ k) = refl
  removed_beside (suc i) (x ∷ l) (y ∷ k) = ap (λ (t : List (A × B)). (x, y) ∷ t) (removed_beside i l k)

  pub set_beside : (i : ℕ) (a : A) (b : B) (l : List A) (k : List B) → set (beside l k) i (a, b) ≡ beside (set l i a) (set k i b)
  unfolding beside
  set_beside i a b [] k = refl
  set_beside zero a b (x ∷ l) [] = refl
  set_beside (suc i) a b (x ∷ l) [] = refl
  set_beside zero a b (x ∷ l) (y ∷ k) = refl
  set_beside (suc i) a b (x ∷ l) (y ∷ k) = ap (λ (t : List (A × B)). (x, y) ∷ t) (set_beside i a b l k)

  pub length_beside : (l : List A) (k : List B) → length l ≡ length k → length (beside l k) ≡ length l
  unfolding beside
  length_beside [] k e = refl
  length_beside (x ∷ l) [] e = absurd (omega arith)
  length_beside (x ∷ l) (y ∷ k) e = ap suc (length_beside l k (omega arith))

  pub get_d_beside : (i : ℕ) (a : A) (b : B) (l : List A) (k : List B) → length l ≡ length k → get_or (beside l k) i (a, b) ≡ (get_or l i a, get_or k i b)
  unfolding beside
  get_d_beside i a b [] [] e = refl
  get_d_beside i a b [] (y ∷ k) e = absurd (omega arith)
  get_d_beside i a b (x ∷ l) [] e = absurd (omega arith)
  get_d_beside zero a b (x ∷ l) (y ∷ k) e = refl
  get_d_beside (suc i) a b (x ∷ l) (y ∷ k) e = get_d_beside i a b l k (omega arith)

  pub beside_first : (l : List A) (k : List B) → length l ≡ length k → map (λ (e : A × B). e.0) (beside l k) ≡ l
  unfolding beside
  beside_first [] k e = refl
  beside_first (x ∷ l) [] e = absurd (omega arith)
  beside_first (x ∷ l) (y ∷ k) e = ap (λ (t : List A). x ∷ t) (beside_first l k (omega arith))

  pub beside_second : (l : List A) (k : List B) → length l ≡ length k → map (λ (e : A × B). e.1) (beside l k) ≡ k
  unfolding beside
  beside_second [] [] e = refl
  beside_second [] (y ∷ k) e = absurd (omega arith)
  beside_second (x ∷ l) [] e = absurd (omega arith)
  beside_second (x ∷ l) (y ∷ k) e = ap (λ (t : List B). y ∷ t) (beside_second l k (omega arith))

  pub beside_whole : (t : List (A × B)) → beside (map (λ (e : A × B). e.0) t) (map (λ (e : A × B). e.1) t) ≡ t
  unfolding beside
  beside_whole [] = refl
  beside_whole (e ∷ t) = ap (λ (r : List (A × B)). e ∷ r) (beside_whole t)
