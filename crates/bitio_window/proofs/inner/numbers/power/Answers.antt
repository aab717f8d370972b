-- A shift of 1 is a power of two, and below 32 none is lost.
use mathlib.Core.Path.{◌≡◌, ap, ◌∙◌}
use Prim.Native.Nat.{ℕ, ◌*◌, ◌%◌, ◌^◌}
use native.Mathlib.Nat.{one-mul, mod-eq_of_lt}
use native.Mathlib.Omega.{arith}
use lib.Pow.{pow_pos, pow-lt}
use Rattle.bitio_window.proofs.inner.numbers.power.Goals as goal

pub returns : goal.returns
returns c =
    let n = c.args.n in
    let e : (1 * 2 ^ n) % 2 ^ 64 ≡ 2 ^ n = ap (λ (x : ℕ). x % 2 ^ 64) (one-mul (2 ^ n)) ∙ mod-eq_of_lt (pow-lt {i = n} {j = 64} (omega arith)) in
    (e, rw e (pow_pos n))
