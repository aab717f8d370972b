-- The count that bounds a walk's recursion is not part of its meaning: any that is above the bits left gives the same walk.
use mathlib.Core.Path.{◌≡◌, refl}
use mathlib.Core.List.{List, [], ◌∷◌}
use Prim.Native.Nat.{ℕ, zero, suc, ◌≤◌, ◌<◌}
use native.Mathlib.Omega.{arith}
use Rattle.bitio_window.specs.declared.Window.{Window}
use Rattle.bitio_window.specs.Parse.{Answer, got, refused}
use Rattle.field_walking.specs.declared.inner.RecordKind.{RecordKind}
use Rattle.field_walking.specs.Records.{Looked, ends, abandons, finds, bits_left, look}
use Rattle.field_walking.specs.Walks.{walked_on, walk}
use Rattle.field_walking.proofs.Moves.{moves_look}

module _ (k : RecordKind) (d : List ℕ) where
  abbrev Agree : ℕ → ℕ → Type 0
  Agree m n = (ps : List (List ℕ)) (w : Window) → w.position.0 ≤ w.length → bits_left w < m → bits_left w < n → walk (look k) m d ps w ≡ walk (look k) n d ps w

  -- a record that is found leaves fewer bits
  one : {m n : ℕ} → Agree m n → (ps : List (List ℕ)) (w : Window) → w.position.0 ≤ w.length → bits_left w < suc m → bits_left w < suc n → (x : Answer Looked) → look k d w ≡ x
      → walked_on ps w x (walk (look k) m d) ≡ walked_on ps w x (walk (look k) n d)
  one rest ps w h f g (refused e u) q = refl
  one rest ps w h f g (got ends u) q = refl
  one rest ps w h f g (got abandons u) q = refl
  one rest [] w h f g (got (finds r) u) q = refl
  one rest (p ∷ ps) w h f g (got (finds r) u) q =
      let o = (moves_look k).moves d w q in
      let v = o.within h in
      rw (rest ps u v (omega (arith, o.length, o.on, v, f)) (omega (arith, o.length, o.on, v, g)))

  pub any_bound : (m n : ℕ) → Agree m n
  unfolding walk
  any_bound zero n ps w h f g = absurd (omega (arith, f))
  any_bound (suc m) zero ps w h f g = absurd (omega (arith, g))
  any_bound (suc m) (suc n) ps w h f g = one (any_bound m n) ps w h f g (look k d w) refl
