-- Packed messages in lent memory: one is put in, changed or taken out by a move of what follows and a paste.
use mathlib.Core.Path.{◌≡◌, refl, sym, ap, ◌∙◌, subst}
use mathlib.Core.List.{List, [], ◌∷◌, ◌++◌, append_assoc}
use Prim.Native.Nat.{ℕ, zero, suc, ◌+◌, ◌≤◌, ◌<◌}
use native.Mathlib.Nat.{not-suc-le-zero, le_of_suc-le-suc}
use native.Mathlib.Omega.{arith}
use lib.ListN.{length, get_or, set, take, drop, take-append-drop, length-drop}
use lib.Seq.{length-take-le, take_at, drop-append-le, drop-append_seam}
use Rattle.tables.specs.Columns.{laid, inserted_at, removed_at}
use Rattle.bunch_places.specs.Bytes.{pasted, part}
use Rattle.bunch_places.specs.Packed.{joined}
use Rattle.bunch_places.proofs.Packed.{start, start_within, start_next, joined_removed, joined_inserted, joined_changed}

module _ {A : Type 0} where
  -- a paste behind what is laid lays more
  over : (p b r : List A) → pasted (length p) b (p ++ r) ≡ laid (p ++ b) (p ++ r)
  unfolding pasted laid
  over [] b r = refl
  over (x ∷ p) b r = ap (λ (t : List A). x ∷ t) (over p b r)

  pub pasted_laid : (at : ℕ) (p b m : List A) → at ≡ length p → m ≡ laid p m → pasted at b m ≡ laid (p ++ b) m
  unfolding laid
  pasted_laid at p b m e h = rw e (subst (λ (t : List A). pasted (length p) b t ≡ laid (p ++ b) t) (sym h) (over p b (drop (length p) m)))

  -- two pastes, the second up to where the first begins, are one
  beneath : (b q m : List A) → length b ≤ length m → laid b (pasted (length b) q m) ≡ laid (b ++ q) m
  unfolding pasted laid
  beneath [] q m h = refl
  beneath (x ∷ b) q [] h = absurd (not-suc-le-zero h)
  beneath (x ∷ b) q (y ∷ m) h = ap (λ (t : List A). x ∷ t) (beneath b q m (le_of_suc-le-suc h))

  pub pasted_twice : (at to : ℕ) (b q m : List A) → to ≡ at + length b → to ≤ length m → pasted at b (pasted to q m) ≡ pasted at (b ++ q) m
  unfolding pasted
  pasted_twice zero to b q m e h = let f : to ≡ length b = omega arith in rw f (beneath b q m (omega arith))
  pasted_twice (suc at) zero b q m e h = absurd (omega arith)
  pasted_twice (suc at) (suc to) b q [] e h = absurd (not-suc-le-zero h)
  pasted_twice (suc at) (suc to) b q (y ∷ m) e h = ap (λ (t : List A). y ∷ t) (pasted_twice at to b q m (omega arith) (le_of_suc-le-suc h))

  pub laid_front : (p r m : List A) → m ≡ laid (p ++ r) m → m ≡ laid p m
  unfolding laid
  laid_front p r m h =
      let e : m ≡ p ++ (r ++ drop (length (p ++ r)) m) = h ∙ append_assoc p r (drop (length (p ++ r)) m) in
      subst (λ (t : List A). t ≡ p ++ drop (length p) t) (sym e) (rw drop-append_seam)

  -- what is read back of what is laid
  pub part_laid : (from n : ℕ) (s m : List A) → from + n ≡ length s → m ≡ laid s m → part from n m ≡ drop from s
  unfolding laid
  part_laid from n s m e h =
      subst (λ (t : List A). part from n t ≡ drop from s) (sym h)
      (rw (drop-append-le from s (drop (length s) m) (omega arith)) (take_at (drop from s) (drop (length s) m) n (rw length-drop (omega arith))))

-- Memory that holds the messages first. The n bytes from `from` on, up to their end, have moved to `to`.
module _ (bs : List (List ℕ)) (m : List ℕ) (holds : m ≡ laid (joined bs) m)
    (i from to n : ℕ) (used : from + n ≡ length (joined bs)) {moved : List ℕ} (moves : moved ≡ pasted to (part from n m) m) where
  moves_tail : moved ≡ pasted to (drop from (joined bs)) m
  moves_tail = moves ∙ ap (λ (q : List ℕ). pasted to q m) (part_laid from n (joined bs) m used holds)

  -- the bytes before `at` stand first
  stays : (at : ℕ) → m ≡ laid (take at (joined bs)) m
  stays at = laid_front (take at (joined bs)) (drop at (joined bs)) m (rw take-append-drop holds)

  put_in : (b : List ℕ) (at : ℕ) {out : List ℕ} → at ≤ length (joined bs) → to ≡ at + length b → to ≤ length m
      → out ≡ pasted at b moved → out ≡ laid (take at (joined bs) ++ (b ++ drop from (joined bs))) m
  put_in b at e f h pastes =
      pastes
      ∙ ap (λ (t : List ℕ). pasted at b t) moves_tail
      ∙ pasted_twice at to b (drop from (joined bs)) m f h
      ∙ pasted_laid at (take at (joined bs)) (b ++ drop from (joined bs)) m (sym (length-take-le at (joined bs) e)) (stays at)

  -- it moved down over message i
  pub removed : to ≡ start i bs → from ≡ start (suc i) bs → moved ≡ laid (joined (removed_at i bs)) m
  removed e f =
      moves_tail
      ∙ pasted_laid to (take to (joined bs)) (drop from (joined bs)) m (sym (length-take-le to (joined bs) (omega (arith, start_within bs i)))) (stays to)
      ∙ rw (joined_removed bs i, e, f)

  -- it moved up from the start of message i, and a message is pasted there
  pub inserted : (b : List ℕ) {out : List ℕ} → from ≡ start i bs → to ≡ from + length b → to ≤ length m
      → out ≡ pasted from b moved → out ≡ laid (joined (inserted_at i b bs)) m
  inserted b e f h pastes = put_in b from (omega arith) f h pastes ∙ rw (joined_inserted bs i, e)

  -- it follows message i, and new bytes are pasted behind the first `keep` of that message
  pub changed : (keep : ℕ) (b : List ℕ) (at : ℕ) {out : List ℕ} → i < length bs → keep ≤ length (get_or bs i []) → at ≡ start i bs + keep → from ≡ start (suc i) bs
      → to ≡ at + length b → to ≤ length m → out ≡ pasted at b moved → out ≡ laid (joined (set bs i (take keep (get_or bs i []) ++ b))) m
  changed keep b at l k e f g h pastes =
      put_in b at (omega (arith, start_within bs (suc i), start_next bs i l)) g h pastes ∙ rw (joined_changed bs i l keep b k, e, f)
