-- The sums over the first places: a turn of the loop that counts, and that they stay small.
use Prim.Native.Nat.{ℕ, suc, ◌+◌, ◌*◌, ◌≤◌, ◌<◌}
use mathlib.Core.Path.{◌≡◌}
use mathlib.Core.Bool.{Bool, true, false, cond}
use mathlib.Core.List.{List, [], ◌∷◌}
use native.Mathlib.Omega.{arith}
use lib.ListN.{length, get_or, take}
use lib.Seq.{length-take-le}
use Rattle.bunch_held.specs.Memory.{bits_in_place, size_of, sum_of, bits_all, size_all}
use Rattle.bunch_held.proofs.Sums as S
use Rattle.bunch.specs.Shown.{is_finished, shown_count, shown_size}

one_at_most : (p : List ℕ) → shown_count p ≤ 1
unfolding shown_count
one_at_most p = go (is_finished p)
  where
    go : (b : Bool) → cond b 0 1 ≤ 1
    go true = omega arith
    go false = omega arith

size_at_most : (p : List ℕ) → shown_size p ≤ size_of p
unfolding shown_size
size_at_most p = go (is_finished p)
  where
    go : (b : Bool) → cond b 0 (size_of p) ≤ size_of p
    go true = omega arith
    go false = omega arith

counts_few : (ps : List (List ℕ)) → sum_of shown_count ps ≤ length ps
unfolding sum_of
counts_few [] = omega arith
counts_few (p ∷ ps) = omega (arith, counts_few ps, one_at_most p)

sizes_less : (ps : List (List ℕ)) → sum_of shown_size ps ≤ size_all ps
unfolding sum_of
sizes_less [] = omega arith
sizes_less (p ∷ ps) = omega (arith, sizes_less ps, size_at_most p)

-- a turn over the places, at place i
pub record Turn (ps : List (List ℕ)) (i : ℕ) : Type 0 where
  pub messages : sum_of shown_count (take (i + 1) ps) ≡ sum_of shown_count (take i ps) + shown_count (get_or ps i [])
  pub bytes : sum_of shown_size (take (i + 1) ps) ≡ sum_of shown_size (take i ps) + shown_size (get_or ps i [])
  pub few_messages : sum_of shown_count (take (i + 1) ps) ≤ i + 1
  pub few_bytes : 8 * sum_of shown_size (take (i + 1) ps) ≤ bits_all ps + 7 * length ps
  pub few_bits : bits_in_place (get_or ps i []) ≤ bits_all ps

pub turn : (ps : List (List ℕ)) (i : ℕ) → i < length ps → Turn ps i
turn ps i h =
    let e : i + 1 ≡ suc i = omega arith in
    let t = S.turn ps i h in
    record {
      messages = rw e (S.sum_more shown_count ps i h);
      bytes = rw e (S.sum_more shown_size ps i h);
      few_messages = omega (arith, counts_few (take (i + 1) ps), length-take-le (i + 1) ps (omega arith));
      few_bytes = omega (arith, sizes_less (take (i + 1) ps), t.fits);
      few_bits = t.few;
    }
