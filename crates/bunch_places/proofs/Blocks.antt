-- A block read and pasted elsewhere, and a turn of a move by blocks.
use mathlib.Core.Path.{◌≡◌, refl, sym, ap, ◌∙◌}
use mathlib.Core.List.{List, [], ◌∷◌, ◌++◌, append-nil}
use Prim.Native.Nat.{ℕ, zero, suc, ◌+◌, ◌-◌, ◌≤◌}
use native.Mathlib.Nat.{not-suc-le-zero, le_of_suc-le-suc}
use native.Mathlib.Omega.{arith}
use lib.ListN.{length, take, drop}
use lib.Seq.{take-add, take_all, drop-drop, drop-length}
use Rattle.tables.specs.Columns.{laid}
use Rattle.bunch_places.specs.Bytes.{pasted, part}
use Rattle.bunch_places.proofs.Pastes.{length_part, length_pasted, MovedFrom, moves_all}
use Rattle.bunch_places.proofs.Arena.{pasted_twice}

module _ {A : Type 0} where
  -- bytes over all that stands
  pasted_over : (b m : List A) → length b ≡ length m → pasted 0 b m ≡ b
  unfolding pasted laid
  pasted_over b m e = rw (e, drop-length m) (append-nil b)

  part_all : (n : ℕ) (s : List A) → length s ≡ n → part 0 n s ≡ s
  part_all n s e = take_all n s (omega arith)

  -- by way of a block z
  pub by_block : (from to k : ℕ) (m z : List A) {b a : List A} → length z ≡ k → from + k ≤ length m → b ≡ pasted 0 (part from k m) z → a ≡ pasted to (part 0 k b) m → a ≡ pasted to (part from k m) m
  by_block from to k m z {b = b} e h f g =
      let l = length_part from k m h in
      let same : b ≡ part from k m = f ∙ pasted_over (part from k m) z (l ∙ sym e) in
      g ∙ ap (λ (t : List A). pasted to t m) (part_all k b (ap length same ∙ l) ∙ same)

  take_before : (k q : ℕ) (b m : List A) → k ≤ q → q ≤ length m → take k (pasted q b m) ≡ take k m
  unfolding pasted
  take_before zero q b m g h = refl
  take_before (suc k) zero b m g h = absurd (omega arith)
  take_before (suc k) (suc q) b [] g h = absurd (omega arith)
  take_before (suc k) (suc q) b (y ∷ m) g h = ap (λ (t : List A). y ∷ t) (take_before k q b m (omega arith) (omega arith))

  -- what stands before what is pasted is as it was
  pub part_before : (p k q : ℕ) (b m : List A) → p + k ≤ q → q ≤ length m → part p k (pasted q b m) ≡ part p k m
  unfolding pasted
  part_before zero k q b m g h = take_before k q b m (omega arith) h
  part_before (suc p) k zero b m g h = absurd (omega arith)
  part_before (suc p) k (suc q) b [] g h = absurd (omega arith)
  part_before (suc p) k (suc q) b (y ∷ m) g h = part_before p k q b m (omega arith) (omega arith)

  pub parts_join : (p k l : ℕ) (m : List A) → part p k m ++ part (p + k) l m ≡ part p (k + l) m
  parts_join p k l m = sym (take-add k l (drop p m) ∙ ap (λ (t : List A). part p k m ++ take l t) (drop-drop k p m))

  laid_behind : (b c m : List A) → length b ≤ length m → pasted (length b) c (laid b m) ≡ laid (b ++ c) m
  unfolding pasted laid
  laid_behind [] c m h = refl
  laid_behind (x ∷ b) c [] h = absurd (not-suc-le-zero h)
  laid_behind (x ∷ b) c (y ∷ m) h = ap (λ (t : List A). x ∷ t) (laid_behind b c m (le_of_suc-le-suc h))

  -- a paste where another ends
  pasted_behind : (at to : ℕ) (b c m : List A) → to ≡ at + length b → to ≤ length m → pasted to c (pasted at b m) ≡ pasted at (b ++ c) m
  unfolding pasted
  pasted_behind zero to b c m e h = let f : to ≡ length b = omega arith in rw f (laid_behind b c m (omega arith))
  pasted_behind (suc at) zero b c m e h = absurd (omega arith)
  pasted_behind (suc at) (suc to) b c [] e h = absurd (not-suc-le-zero h)
  pasted_behind (suc at) (suc to) b c (y ∷ m) e h = ap (λ (t : List A). y ∷ t) (pasted_behind at to b c m (omega arith) (le_of_suc-le-suc h))

  -- k bytes more, from below
  pub copies_block : (from at i k : ℕ) (s m : List A) {a b : List A} → from + i ≤ length s → at + i ≤ length m → a ≡ pasted at (part from i s) m
      → b ≡ pasted (at + i) (part (from + i) k s) a → b ≡ pasted at (part from (i + k) s) m
  copies_block from at i k s m g h o p =
      let l = length_part from i s g in
      p
      ∙ ap (λ (t : List A). pasted (at + i) (part (from + i) k s) t) o
      ∙ pasted_behind at (at + i) (part from i s) (part (from + i) k s) m (omega (arith, l)) h
      ∙ ap (λ (t : List A). pasted at t m) (parts_join from i k s)

  drop_laid : (p : ℕ) (b m : List A) → length b ≤ p → p ≤ length m → drop p (laid b m) ≡ drop p m
  unfolding laid
  drop_laid p [] m g h = refl
  drop_laid zero (x ∷ b) m g h = absurd (not-suc-le-zero g)
  drop_laid (suc p) (x ∷ b) [] g h = absurd (not-suc-le-zero h)
  drop_laid (suc p) (x ∷ b) (y ∷ m) g h = drop_laid p b m (le_of_suc-le-suc g) (le_of_suc-le-suc h)

  pub drop_behind : (p at : ℕ) (b m : List A) → at + length b ≤ p → p ≤ length m → drop p (pasted at b m) ≡ drop p m
  unfolding pasted
  drop_behind p zero b m g h = drop_laid p b m (omega arith) h
  drop_behind zero (suc at) b m g h = absurd (omega arith)
  drop_behind (suc p) (suc at) b [] g h = absurd (not-suc-le-zero h)
  drop_behind (suc p) (suc at) b (y ∷ m) g h = drop_behind p at b m (omega arith) (le_of_suc-le-suc h)

  -- and where they come from memory itself, not yet written over
  pub moves_block_down : (from to i k : ℕ) (m : List A) {a b : List A} → to ≤ from → from + i ≤ length m → a ≡ pasted to (part from i m) m
      → b ≡ pasted (to + i) (part (from + i) k a) a → b ≡ pasted to (part from (i + k) m) m
  moves_block_down from to i k m g h o p =
      let l = length_part from i m h in
      p
      ∙ ap (λ (t : List A). pasted (to + i) (part (from + i) k t) t) o
      ∙ ap (λ (t : List A). pasted (to + i) (take k t) (pasted to (part from i m) m)) (drop_behind (from + i) to (part from i m) m (omega (arith, l)) h)
      ∙ copies_block from to i k m m h (omega arith) refl refl

  -- what is left, up to n
  pub moves_rest_down : (from to n i : ℕ) (m : List A) {a b : List A} → i ≤ n → to ≤ from → from + i ≤ length m → a ≡ pasted to (part from i m) m
      → b ≡ pasted (to + i) (part (from + i) (n - i) a) a → b ≡ pasted to (part from n m) m
  moves_rest_down from to n i m e g h o p =
      let u : i + (n - i) ≡ n = omega arith in
      moves_block_down from to i (n - i) m g h o p ∙ ap (λ (k : ℕ). pasted to (part from k m) m) u

  pub length_block : (at from k : ℕ) (s m : List A) {a : List A} → from + k ≤ length s → at + k ≤ length m → a ≡ pasted at (part from k s) m → length a ≡ length m
  length_block at from k s m g h p = let l = length_part from k s g in ap length p ∙ length_pasted at (part from k s) m (omega (arith, l))

  -- k bytes more, from above: they come from memory itself, and are not yet written over
  pub moves_block : (from to n i j k : ℕ) (m : List A) {a : List A} → i ≡ j + k → i ≤ n → from ≤ to → to + n ≤ length m
      → MovedFrom from to n i m a → MovedFrom from to n j m (pasted (to + j) (part (from + j) k a) a)
  moves_block from to n i j k m e f g h o =
      let b : List A = part (from + i) (n - i) m in
      let v : from + i ≡ from + j + k = omega arith in
      let w : k + (n - i) ≡ n - j = omega arith in
      let l = length_part (from + j) k m (omega arith) in
      ap (λ (t : List A). pasted (to + j) (part (from + j) k t) t) o
      ∙ ap (λ (t : List A). pasted (to + j) t (pasted (to + i) b m)) (part_before (from + j) k (to + i) b m (omega arith) (omega arith))
      ∙ pasted_twice (to + j) (to + i) (part (from + j) k m) b m (omega (arith, l)) (omega arith)
      ∙ ap (λ (t : List A). pasted (to + j) t m) (ap (λ (s : ℕ). part (from + j) k m ++ part s (n - i) m) v ∙ parts_join (from + j) k (n - i) m ∙ ap (λ (s : ℕ). part (from + j) s m) w)

  -- and all that are left
  pub moves_rest : (from to n i : ℕ) (m : List A) {a o : List A} → i ≤ n → from ≤ to → to + n ≤ length m → MovedFrom from to n i m a → o ≡ pasted to (part from i a) a → o ≡ pasted to (part from n m) m
  moves_rest from to n i m {a = a} f g h moved e =
      let u : to + 0 ≡ to = omega arith in
      let v : from + 0 ≡ from = omega arith in
      let all : pasted (to + 0) (part (from + 0) i a) a ≡ pasted to (part from n m) m = moves_all from to n 0 m refl (moves_block from to n i 0 i m (omega arith) f g h moved) in
      e ∙ rw (u, v) at all
