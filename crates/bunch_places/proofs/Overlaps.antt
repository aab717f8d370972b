-- A last block that ends where all ends writes some bytes once more, and the same.
use mathlib.Core.Path.{◌≡◌, refl, sym, ap, ◌∙◌}
use mathlib.Core.List.{List, [], ◌∷◌, ◌++◌}
use Prim.Native.Nat.{ℕ, zero, suc, ◌+◌, ◌-◌, ◌≤◌}
use native.Mathlib.Nat.{not-suc-le-zero, le_of_suc-le-suc}
use native.Mathlib.Omega.{arith}
use lib.ListN.{length, take, drop}
use Rattle.tables.specs.Columns.{laid}
use Rattle.bunch_places.specs.Bytes.{pasted, part}
use Rattle.bunch_places.proofs.Pastes.{length_part, MovedFrom}
use Rattle.bunch_places.proofs.Arena.{pasted_twice}
use Rattle.bunch_places.proofs.Blocks.{part_before, parts_join, drop_behind, copies_block, length_block}

module _ {A : Type 0} where
  -- a paste over all of another
  covers : (at p : ℕ) (b c m : List A) → at ≤ p → p + length b ≤ at + length c → at + length c ≤ length m → pasted at c (pasted p b m) ≡ pasted at c m
  unfolding pasted laid
  covers zero p b c m g h k = ap (λ (t : List A). c ++ t) (drop_behind (length c) p b m (omega arith) (omega arith))
  covers (suc at) zero b c m g h k = absurd (not-suc-le-zero g)
  covers (suc at) (suc p) b c [] g h k = absurd (omega arith)
  covers (suc at) (suc p) b c (y ∷ m) g h k = ap (λ (t : List A). y ∷ t) (covers at p b c m (le_of_suc-le-suc g) (omega arith) (omega arith))

  -- of n bytes the first i are copied, and then the last k
  pub copies_over : (from at n i k : ℕ) (s m : List A) {a b : List A} → k ≤ n → n - k ≤ i → i ≤ n → from + n ≤ length s → at + n ≤ length m → a ≡ pasted at (part from i s) m
      → b ≡ pasted (at + (n - k)) (part (from + (n - k)) k s) a → b ≡ pasted at (part from n s) m
  copies_over from at n i k s m e f g h l o p =
      let j : ℕ = n - k in
      let t : j + (i - j) ≡ i = omega arith in
      let u : j + k ≡ n = omega arith in
      let x : List A = part (from + j) (i - j) s in
      let y : List A = part (from + j) k s in
      let w : List A = pasted at (part from j s) m in
      let few : length x ≡ i - j = length_part (from + j) (i - j) s (omega arith) in
      let all : length y ≡ k = length_part (from + j) k s (omega arith) in
      let same : length w ≡ length m = length_block at from j s m (omega arith) (omega arith) refl in
      let split : pasted at (part from i s) m ≡ pasted (at + j) x w = sym (copies_block from at j (i - j) s m (omega arith) (omega arith) refl refl ∙ ap (λ (z : ℕ). pasted at (part from z s) m) t) in
      p
      ∙ ap (λ (z : List A). pasted (at + j) y z) (o ∙ split)
      ∙ covers (at + j) (at + j) x y w (omega arith) (omega (arith, few, all)) (omega (arith, all, same))
      ∙ copies_block from at j k s m (omega arith) (omega arith) refl refl
      ∙ ap (λ (z : ℕ). pasted at (part from z s) m) u

  -- the same where they come from memory itself: the last k are not yet written over
  pub moves_over_down : (from to n i k : ℕ) (m : List A) {a b : List A} → k ≤ n → n - k ≤ i → i ≤ n → to + i ≤ from + (n - k) → from + n ≤ length m → a ≡ pasted to (part from i m) m
      → b ≡ pasted (to + (n - k)) (part (from + (n - k)) k a) a → b ≡ pasted to (part from n m) m
  moves_over_down from to n i k m {a = a} e f g apart h o p =
      let l : length (part from i m) ≡ i = length_part from i m (omega arith) in
      let unread : drop (from + (n - k)) a ≡ drop (from + (n - k)) m = ap (λ (z : List A). drop (from + (n - k)) z) o ∙ drop_behind (from + (n - k)) to (part from i m) m (omega (arith, l)) (omega arith) in
      copies_over from to n i k m m e f g h (omega arith) o (p ∙ ap (λ (z : List A). pasted (to + (n - k)) (take k z) a) unread)

  -- and from above: the bytes from i on have moved, and then the first k
  pub moves_over : (from to n i k : ℕ) (m : List A) {a o : List A} → i ≤ k → k ≤ n → from + k ≤ to + i → to + n ≤ length m → MovedFrom from to n i m a
      → o ≡ pasted to (part from k a) a → o ≡ pasted to (part from n m) m
  moves_over from to n i k m {a = a} f g apart h moved p =
      let x : List A = part (from + i) (k - i) m in
      let y : List A = part (from + k) (n - k) m in
      let z : List A = part from k m in
      let w : List A = pasted (to + k) y m in
      let few : length x ≡ k - i = length_part (from + i) (k - i) m (omega arith) in
      let rest : length y ≡ n - k = length_part (from + k) (n - k) m (omega arith) in
      let all : length z ≡ k = length_part from k m (omega arith) in
      let same : length w ≡ length m = length_block (to + k) (from + k) (n - k) m m (omega arith) (omega arith) refl in
      let v : from + i + (k - i) ≡ from + k = omega arith in
      let t : k - i + (n - k) ≡ n - i = omega arith in
      let u : k + (n - k) ≡ n = omega arith in
      let halves : x ++ y ≡ part (from + i) (n - i) m = ap (λ (q : ℕ). x ++ part q (n - k) m) (sym v) ∙ parts_join (from + i) (k - i) (n - k) m ∙ ap (λ (q : ℕ). part (from + i) q m) t in
      let split : a ≡ pasted (to + i) x w = moved ∙ sym (pasted_twice (to + i) (to + k) x y m (omega (arith, few)) (omega arith) ∙ ap (λ (q : List A). pasted (to + i) q m) halves) in
      let unread : part from k a ≡ z = ap (part from k) moved ∙ part_before from k (to + i) (part (from + i) (n - i) m) m apart (omega arith) in
      p
      ∙ ap (λ (q : List A). pasted to q a) unread
      ∙ ap (λ (q : List A). pasted to z q) split
      ∙ covers to (to + i) x z w (omega arith) (omega (arith, few, all)) (omega (arith, all, same))
      ∙ pasted_twice to (to + k) z y m (omega (arith, all)) (omega arith)
      ∙ ap (λ (q : List A). pasted to q m) (parts_join from k (n - k) m ∙ ap (λ (q : ℕ). part from q m) u)
