-- A word as a signed number, and back.
use mathlib.Core.Path.{◌≡◌, refl, ap}
use mathlib.Core.Bool.{Bool, true, false, cond}
use Prim.Native.Nat.{ℕ, suc, ◌-◌, ◌^◌, ◌<◌}
use native.Mathlib.Omega.{arith}
use lib.Dec.{ltb}
use lib.IntN.{ℤ, pos, negsuc}
use mir.Syntax.{w32}
use mir.Val.{SFits, sel, to_z, of_z}
use borrow.Author.Tests.{lt-ltb, le-ltb}
use Rattle.bitio_bits.specs.Floats.{signed}

-- what std's `cast_signed` gives
pub of_the_cast : (v : ℕ) → to_z w32 v ≡ signed v
unfolding signed
of_the_cast v = go (ltb v (2 ^ 31)) (omega arith)
  where
    go : (b : Bool) {m n : ℕ} → m ≡ n → sel b (pos v) (negsuc m) ≡ cond b (pos v) (negsuc n)
    go true e = refl
    go false e = ap negsuc e

-- a signed number's word says the number again
pub signed_word : (z : ℤ) → SFits w32 z → signed (of_z w32 z) ≡ z
unfolding signed
signed_word (pos n) f = let h : n < 2 ^ 31 = f.sfits in rw (lt-ltb n (2 ^ 31) h)
signed_word (negsuc n) f =
    let h : n < 2 ^ 31 = f.sfits in
    let e : 2 ^ 32 - 1 - (2 ^ 32 - suc n) ≡ n = omega (arith, h) in
    rw (le-ltb (2 ^ 32 - suc n) (2 ^ 31) (omega (arith, h)), e)
