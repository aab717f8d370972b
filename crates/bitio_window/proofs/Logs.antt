-- `log2` is the floor of the binary logarithm, and what the leading zeros leave.
use mathlib.Core.Path.{◌≡◌, refl}
use mathlib.Core.Bool.{Bool, true, false, cond}
use Prim.Native.Nat.{ℕ, zero, suc, ◌+◌, ◌-◌, ◌^◌, ◌≤◌, ◌<◌}
use native.Mathlib.Numerals.{add-one}
use native.Mathlib.Omega.{arith}
use lib.Dec.{leb}
use lib.Count.{count_leading_zeros, leading_top}
use lib.Pow.{pow_mono}
use borrow.Author.Tests.{leb-true, leb-false}
use Rattle.bitio_window.specs.Numbers.{log2_up_to, log2}

module _ (m : ℕ) where
  few : (k : ℕ) → log2_up_to k m ≤ k
  few zero = omega arith
  few (suc k) = at_most (leb (2 ^ suc k) m) (few k)
    where
      at_most : (b : Bool) → log2_up_to k m ≤ k → cond b (suc k) (log2_up_to k m) ≤ suc k
      at_most true h = omega arith
      at_most false h = omega (arith, h)

  below : (k : ℕ) → 0 < m → 2 ^ log2_up_to k m ≤ m
  below zero h = h
  below (suc k) h = chosen (leb (2 ^ suc k) m) refl (below k h)
    where
      chosen : (b : Bool) → leb (2 ^ suc k) m ≡ b → 2 ^ log2_up_to k m ≤ m → 2 ^ cond b (suc k) (log2_up_to k m) ≤ m
      chosen true e g = leb-true (2 ^ suc k) m e
      chosen false e g = g

  above : (k : ℕ) → m < 2 ^ suc k → m < 2 ^ suc (log2_up_to k m)
  above zero h = h
  above (suc k) h = chosen (leb (2 ^ suc k) m) refl (above k)
    where
      chosen : (b : Bool) → leb (2 ^ suc k) m ≡ b → (m < 2 ^ suc k → m < 2 ^ suc (log2_up_to k m)) → m < 2 ^ suc (cond b (suc k) (log2_up_to k m))
      chosen true e g = h
      chosen false e g = g (leb-false (2 ^ suc k) m e)

  -- no two powers are the largest
  no_less : (a b : ℕ) → 2 ^ a ≤ m → m < 2 ^ suc b → a ≤ b
  no_less a b h g = decide (leb a b) refl
    where
      decide : (t : Bool) → leb a b ≡ t → a ≤ b
      decide true e = leb-true a b e
      decide false e = absurd (omega (arith, h, g, pow_mono {i = suc b} {j = a} (leb-false a b e)))

  pub log2_most : log2 m ≤ 31
  unfolding log2
  log2_most = few 31

module _ (m : ℕ) (h : 0 < m) (f : m < 2 ^ 32) where
  top : (j : ℕ) × (count_leading_zeros 32 m + suc j ≡ 32) × (2 ^ j ≤ m) × (m < 2 ^ suc j)
  top = leading_top 32 m h f

  pub zeros_few : count_leading_zeros 32 m ≤ 31
  zeros_few = omega (arith, top.1)

  pub log2_le : 2 ^ log2 m ≤ m
  unfolding log2
  log2_le = below m 31 h

  pub log2_lt : m < 2 ^ (log2 m + 1)
  unfolding log2
  log2_lt = rw add-one (above m 31 f)

  pub zeros_leave : 31 - count_leading_zeros 32 m ≡ log2 m
  zeros_leave = omega (arith, top.1, no_less m top.0 (log2 m) top.2 (rw (add-one) at log2_lt), no_less m (log2 m) top.0 log2_le top.3)

  pub log2_few : log2 m < 32
  log2_few = omega (arith, log2_most m)

  pub log2_next : 2 ^ (log2 m + 1) ≤ 2 ^ 32
  log2_next = pow_mono {i = log2 m + 1} {j = 32} (omega (arith, log2_few))
