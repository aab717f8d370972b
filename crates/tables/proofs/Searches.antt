-- The search: a step to either side, a turn of the count, and the slot that it ends at.
use mathlib.Core.Path.{◌≡◌, refl, sym}
use mathlib.Core.List.{List, [], ◌∷◌}
use Prim.Native.Nat.{ℕ, zero, suc, ◌+◌, ◌-◌, ◌≤◌, ◌<◌, min}
use native.Mathlib.Nat.{not-suc-le-zero, le_of_suc-le-suc}
use native.Mathlib.Decide.{dec_lt}
use native.Mathlib.Omega.{arith}
use lib.ListN.{length, get_or}
use borrow.Author.Tests.{lt-ltb, le-ltb, eq-eqb, ne_eqb}
use Rattle.std.specs.Prelude.{Ok, Err}
use Rattle.tables.specs.Search.{Rising, Near}
use Rattle.tables.specs.Tables.{further, slot_of}

module _ (l : List ℕ) (c : ℕ) (rise : Rising l) (r room m n rest : ℕ) (near : Near l (length l) c r room) where
  -- place m is below c
  pub up : n ≡ suc m → n ≤ length l → min (r + room) (length l) ≤ n + rest → get_or l m 0 < c → Near l (length l) c n rest
  up e g h lt =
      record {
        within = g;
        below = λ k f. below k f (dec_lt k m);
        above = λ k f p. near.above k (omega arith) p;
      }
    where
      below : (k : ℕ) → k < n → Dec (k < m) → get_or l k 0 < c
      below k f (yes p) = omega (arith, rise.rises k m p (omega arith))
      below k f (no p) = let q : k ≡ m = omega arith in rw q lt

  -- place m is not below c
  pub down : m ≤ r + rest → c ≤ get_or l m 0 → Near l (length l) c r rest
  down h ge =
      record {
        within = near.within;
        below = near.below;
        above = λ k f p. above k f p (dec_lt m k);
      }
    where
      above : (k : ℕ) → r + rest ≤ k → k < length l → Dec (m < k) → c ≤ get_or l k 0
      above k f p (yes q) = omega (arith, rise.rises m k q p)
      above k f p (no q) = let e : k ≡ m = omega arith in rw e ge

-- channels that ascend are as far apart as their places, and further by the numbers between them that are free
module _ (l : List ℕ) (rise : Rising l) where
  apart : (d i j : ℕ) → j ≡ i + d → j < length l → get_or l i 0 + d ≤ get_or l j 0
  apart zero i j e h = let s : j ≡ i = omega arith in rw s (omega arith)
  apart (suc d) i j e h = omega (arith, apart d i (i + d) refl (omega arith), rise.rises (i + d) j (omega arith) h)

  pub last_high : 0 < length l → length l ≤ get_or l (length l - 1) 0 + 1
  last_high h = omega (arith, apart (length l - 1) 0 (length l - 1) (omega arith) (omega arith))

  pub by_number : (c free r room : ℕ) → 0 < length l → free ≡ get_or l (length l - 1) 0 + 1 - length l → free ≤ room → r ≡ min (c - free) (length l)
      → Near l (length l) c r room
  by_number c free r room h e few is =
      record {
        within = omega arith;
        below = λ k f. omega (arith, apart (length l - 1 - k) k (length l - 1) (omega arith) (omega arith));
        above = λ k f p. omega (arith, apart k 0 k (omega arith) (omega arith));
      }

-- the live places end at m, r of them below c: one more
module _ (l : List ℕ) (c r m n : ℕ) (near : Near l m c r 0) (next : n ≡ suc m) where
  pub counted : (s : ℕ) → Rising l → m < length l → s ≡ suc r → get_or l m 0 < c → Near l n c s 0
  counted s rise h e lt =
      record {
        within = omega (arith, near.within);
        below = λ k f. below k f (dec_lt k m);
        above = λ k f p. omega (arith, near.above r (omega arith) (omega arith), rise.rises r m (omega arith) h);
      }
    where
      below : (k : ℕ) → k < s → Dec (k < m) → get_or l k 0 < c
      below k f (yes p) = omega (arith, rise.rises k m p h)
      below k f (no p) = let q : k ≡ m = omega (arith, near.within) in rw q lt

  pub passed : c ≤ get_or l m 0 → Near l n c r 0
  passed ge =
      record {
        within = omega (arith, near.within);
        below = near.below;
        above = λ k f p. above k f p (dec_lt k m);
      }
    where
      above : (k : ℕ) → r + 0 ≤ k → k < n → Dec (k < m) → c ≤ get_or l k 0
      above k f p (yes q) = near.above k f q
      above k f p (no q) = let e : k ≡ m = omega arith in rw e ge

module _ (l : List ℕ) (live c r room : ℕ) (near : Near l live c r room) where
  pub none_counted : (m : ℕ) → m ≡ r → Near l m c m 0
  none_counted m e = record { within = omega arith; below = λ k h. near.below k (omega arith); above = λ k h g. omega arith }

  pub all_counted : (m s : ℕ) → m ≤ live → r + room ≤ m → Near l m c s 0 → Near l live c s 0
  all_counted m s h g part = record { within = omega (arith, part.within); below = part.below; above = λ k f p. above k f p (dec_lt k m) }
    where
      above : (k : ℕ) → s + 0 ≤ k → k < live → Dec (k < m) → c ≤ get_or l k 0
      above k f p (yes q) = part.above k f q
      above k f p (no q) = near.above k (omega arith) p

  -- from further back, so that the room stays inside
  pub back : (s : ℕ) → s ≤ r → min (r + room) live ≤ s + room → Near l live c s room
  back s h g = record { within = omega (arith, near.within); below = λ k f. near.below k (omega arith); above = λ k f p. near.above k (omega arith) p }

slot_at : (l : List ℕ) (c i : ℕ) → i < length l → ((k : ℕ) → k < i → get_or l k 0 < c) → get_or l i 0 ≡ c → slot_of c l ≡ Ok i
unfolding slot_of further
slot_at [] c i h b e = absurd (not-suc-le-zero h)
slot_at (x ∷ l) c zero h b e = rw (le-ltb x c (omega arith), eq-eqb x c e) refl
slot_at (x ∷ l) c (suc i) h b e =
    rw (lt-ltb x c (b 0 (omega arith)), slot_at l c i (le_of_suc-le-suc h) (λ k p. b (suc k) (omega arith)) e) refl

slot_free : (l : List ℕ) (c i : ℕ) → i ≤ length l → ((k : ℕ) → k < i → get_or l k 0 < c) → (i < length l → c < get_or l i 0) → slot_of c l ≡ Err i
unfolding slot_of further
slot_free [] c i h b a = let e : i ≡ 0 = omega arith in rw e refl
slot_free (x ∷ l) c zero h b a =
    let f : c < x = a (omega arith) in rw (le-ltb x c (omega arith), ne_eqb x c (λ e. omega arith)) refl
slot_free (x ∷ l) c (suc i) h b a =
    rw (lt-ltb x c (b 0 (omega arith)), slot_free l c i (le_of_suc-le-suc h) (λ k p. b (suc k) (omega arith)) (λ p. a (omega arith))) refl

module _ (l : List ℕ) (c i : ℕ) (near : Near l (length l) c i 0) where
  pub ends_at : i < length l → get_or l i 0 ≡ c → Ok i ≡ slot_of c l
  ends_at h e = sym (slot_at l c i h near.below e)

  pub ends_free : (i < length l → get_or l i 0 ≡ c → ⊥) → Err i ≡ slot_of c l
  ends_free n = sym (slot_free l c i near.within near.below (λ h. let m : get_or l i 0 ≡ c → ⊥ = n h in omega (arith, near.above i (omega arith) h, m)))
