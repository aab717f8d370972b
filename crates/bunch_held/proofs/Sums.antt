-- Sums over the first places: one place more, and that the bytes are hardly more than the bits want.
use mathlib.Core.Path.{◌≡◌}
use mathlib.Core.List.{List, [], ◌∷◌}
use Prim.Native.Nat.{ℕ, zero, suc, ◌+◌, ◌*◌, ◌≤◌, ◌<◌, zero-le}
use native.Mathlib.Nat.{not-suc-le-zero, le_of_suc-le-suc}
use native.Mathlib.Omega.{arith}
use lib.ListN.{length, get_or, take}
use lib.Seq.{length-take-le}
use Rattle.bunch_held.specs.Memory.{bits_in_place, size_of, sum_of, bits_all, size_all}

module _ (f : List ℕ → ℕ) where
  pub sum_more : (ps : List (List ℕ)) (i : ℕ) → i < length ps → sum_of f (take (suc i) ps) ≡ sum_of f (take i ps) + f (get_or ps i [])
  unfolding sum_of
  sum_more [] i h = absurd (not-suc-le-zero h)
  sum_more (p ∷ ps) zero h = let e : f p + 0 ≡ 0 + f p = omega arith in e
  sum_more (p ∷ ps) (suc i) h = omega (arith, sum_more ps i (le_of_suc-le-suc h))

  pub sum_front : (ps : List (List ℕ)) (i j : ℕ) → i ≤ j → sum_of f (take i ps) ≤ sum_of f (take j ps)
  unfolding sum_of
  sum_front ps zero j h = zero-le
  sum_front ps (suc i) zero h = absurd (not-suc-le-zero h)
  sum_front [] (suc i) (suc j) h = zero-le
  sum_front (p ∷ ps) (suc i) (suc j) h = omega (arith, sum_front ps i j (le_of_suc-le-suc h))

  sum_part : (ps : List (List ℕ)) (i : ℕ) → sum_of f (take i ps) ≤ sum_of f ps
  unfolding sum_of
  sum_part ps zero = zero-le
  sum_part [] (suc i) = zero-le
  sum_part (p ∷ ps) (suc i) = omega (arith, sum_part ps i)

pub sizes_few : (ps : List (List ℕ)) → 8 * size_all ps ≤ bits_all ps + 7 * length ps
unfolding sum_of
sizes_few [] = omega arith
sizes_few (p ∷ ps) = omega (arith, sizes_few ps)

-- a turn over the places, at place k
pub record Turn (ps : List (List ℕ)) (k : ℕ) : Type 0 where
  pub more : size_all (take (k + 1) ps) ≡ size_all (take k ps) + size_of (get_or ps k [])
  pub few : bits_in_place (get_or ps k []) ≤ bits_all ps
  pub fits : 8 * size_all (take (k + 1) ps) ≤ bits_all ps + 7 * length ps

pub turn : (ps : List (List ℕ)) (k : ℕ) → k < length ps → Turn ps k
turn ps k h =
    let e : k + 1 ≡ suc k = omega arith in
    let b = sum_more bits_in_place ps k h in
    let m = sum_part bits_in_place ps (suc k) in
    record {
      more = rw e (sum_more size_of ps k h);
      few = omega (arith, b, m);
      fits = rw e (omega (arith, sizes_few (take (suc k) ps), m, length-take-le (suc k) ps (omega arith)));
    }
