-- A serialized number's bits: as many as each number below the maximum needs, and no more than the maximum has.
use mathlib.Core.Path.{◌≡◌, refl, sym}
use mathlib.Core.Bool.{Bool, true, false, not, cond}
use Prim.Native.Nat.{ℕ, ◌+◌, ◌*◌, ◌-◌, ◌%◌, ◌^◌, ◌≤◌, ◌<◌}
use native.Mathlib.Nat.{pow-suc, add-zero}
use native.Mathlib.Numerals.{add-one}
use native.Mathlib.Omega.{arith}
use lib.Dec.{ltb, leb}
use lib.Pow.{pow_pos, pow-lt, pow_mono, low}
use borrow.Author.Tests.{ltb-true, ltb-false, leb-true, leb-false, lt-ltb, le-ltb}
use Rattle.bitio_window.specs.Numbers.{log2}
use Rattle.bitio_window.specs.Widths.{serialized_width}
use Rattle.bitio_window.proofs.Logs.{log2_le, log2_lt}

-- the test as the code makes it
pub follows : (m y : ℕ) → not (leb m y) ≡ ltb y m
follows m y = go (leb m y) refl
  where
    go : (t : Bool) → leb m y ≡ t → not t ≡ ltb y m
    go true e = sym (le-ltb y m (leb-true m y e))
    go false e = sym (lt-ltb y m (leb-false m y e))

fewer : (n k : ℕ) → 2 ^ n < 2 ^ k → n < k
fewer n k h = go (ltb n k) refl
  where
    go : (t : Bool) → ltb n k ≡ t → n < k
    go true e = ltb-true n k e
    go false e = absurd (omega (arith, pow_mono {i = k} {j = n} (ltb-false n k e)))

module _ (m : ℕ) (f : m < 2 ^ 32) where
  -- a number below the maximum has at most one bit above the w
  pub below_twice : (x : ℕ) → x < m → x < 2 ^ (log2 m + 1)
  below_twice x h = omega (arith, log2_lt m (omega arith) f)

  -- and none, where none follows
  pub below_top : (x : ℕ) → x < m → m ≤ x % 2 ^ log2 m + 2 ^ log2 m → x < 2 ^ log2 m
  below_top x h g = go (ltb x (2 ^ log2 m)) refl
    where
      go : (t : Bool) → ltb x (2 ^ log2 m) ≡ t → x < 2 ^ log2 m
      go true e = ltb-true x (2 ^ log2 m) e
      go false e =
          let n = log2 m in
          let l : x - 2 ^ n < 2 ^ n = omega (arith, pow-suc 2 n, rw add-one at (below_twice x h), pow_pos n) in
          let s : 1 * 2 ^ n + (x - 2 ^ n) ≡ x = omega (arith, ltb-false x (2 ^ n) e) in
          absurd (omega (arith, rw s at (low 1 n l), ltb-false x (2 ^ n) e))

  pub width_holds : (x : ℕ) → x < m → x < 2 ^ serialized_width m x
  unfolding serialized_width
  width_holds x h = go (ltb (x % 2 ^ log2 m + 2 ^ log2 m) m) refl
    where
      go : (t : Bool) → ltb (x % 2 ^ log2 m + 2 ^ log2 m) m ≡ t → x < 2 ^ (log2 m + cond t 1 0)
      go true e = below_twice x h
      go false e = rw add-zero (below_top x h (ltb-false (x % 2 ^ log2 m + 2 ^ log2 m) m e))

  pub width_most : (x k : ℕ) → 0 < m → m ≤ 2 ^ k → serialized_width m x ≤ k
  unfolding serialized_width
  width_most x k h g = go (ltb (x % 2 ^ log2 m + 2 ^ log2 m) m) refl
    where
      go : (t : Bool) → ltb (x % 2 ^ log2 m + 2 ^ log2 m) m ≡ t → log2 m + cond t 1 0 ≤ k
      go true e = omega (arith, fewer (log2 m) k (omega (arith, ltb-true (x % 2 ^ log2 m + 2 ^ log2 m) m e)))
      go false e = omega (arith, fewer (log2 m) (k + 1) (omega (arith, log2_le m h f, pow-lt {i = k} {j = k + 1} (omega arith))))
