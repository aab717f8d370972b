-- What is copied within a column where a value is put in or taken out, against the list that is meant.
use mathlib.Core.Path.{◌≡◌, refl, ap}
use mathlib.Core.List.{List, [], ◌∷◌, ◌++◌}
use Prim.Native.Nat.{ℕ, zero, suc, ◌+◌, ◌-◌, ◌≤◌, ◌<◌}
use native.Mathlib.Nat.{not-suc-le-zero, le_of_suc-le-suc}
use native.Mathlib.Omega.{arith}
use lib.ListN.{length, set, take, drop}
use lib.Seq.{length-take-le}
use Rattle.std.specs.List.{copy_within}
use Rattle.tables.specs.Columns.{laid, inserted_at, removed_at}

module _ {A : Type 0} where
  opened : (at n live : ℕ) (x : A) (m : List A) → live ≡ at + n → live < length m
      → set (take (suc at) m ++ take n (drop at m) ++ drop (suc live) m) at x ≡ laid (inserted_at at x (take live m)) m
  unfolding laid inserted_at
  opened at n live x [] e h = absurd (not-suc-le-zero h)
  opened zero n live x (y ∷ m) e h = let z : n ≡ live = omega arith in rw (z, length-take-le live (y ∷ m) (omega arith)) refl
  opened (suc at) n zero x (y ∷ m) e h = absurd (omega arith)
  opened (suc at) n (suc live) x (y ∷ m) e h = ap (λ (t : List A). y ∷ t) (opened at n live x m (omega arith) (le_of_suc-le-suc h))

  pub inserts : (at live : ℕ) (x : A) (m : List A) → at ≤ live → live < length m
      → set (copy_within m at live (at + 1)) at x ≡ laid (inserted_at at x (take live m)) m
  inserts at live x m g h =
      let f : at + 1 ≡ suc at = omega arith in
      let e : suc at + (live - at) ≡ suc live = omega arith in
      rw (f, e) (opened at (live - at) live x m (omega arith) h)

  closed : (at n last : ℕ) (m : List A) → last ≡ at + n → last < length m
      → take at m ++ take n (drop (suc at) m) ++ drop last m ≡ laid (removed_at at (take (suc last) m)) m
  unfolding laid removed_at
  closed at n last [] e h = absurd (not-suc-le-zero h)
  closed zero n last (y ∷ m) e h = let z : n ≡ last = omega arith in rw (z, length-take-le last m (le_of_suc-le-suc h)) refl
  closed (suc at) n zero (y ∷ m) e h = absurd (omega arith)
  closed (suc at) n (suc last) (y ∷ m) e h = ap (λ (t : List A). y ∷ t) (closed at n last m (omega arith) (le_of_suc-le-suc h))

  pub removes : (at live : ℕ) (m : List A) → at < live → live ≤ length m → copy_within m (at + 1) live at ≡ laid (removed_at at (take live m)) m
  removes at zero m g h = absurd (not-suc-le-zero g)
  removes at (suc last) m g h =
      let f : at + 1 ≡ suc at = omega arith in
      let e : at + (suc last - suc at) ≡ last = omega arith in
      rw (f, e) (closed at (suc last - suc at) last m (omega arith) h)
