-- One less than a power of two is a mask; below 64 bits none of the power is lost.
use mathlib.Core.Path.{◌≡◌, ap, ◌∙◌}
use Prim.Native.Nat.{ℕ, ◌*◌, ◌-◌, ◌%◌, ◌^◌, ◌<◌}
use native.Mathlib.Nat.{one-mul, mod-eq_of_lt}
use lib.Pow.{pow-lt}
use Rattle.bitio_bits.proofs.Masks.{cut}
use Rattle.bitio_bits.proofs.inner.masks.low_by_shift.Goals as goal

power : (n : ℕ) → n < 64 → (1 * 2 ^ n) % 2 ^ 64 ≡ 2 ^ n
power n h = ap (λ (x : ℕ). x % 2 ^ 64) (one-mul (2 ^ n)) ∙ mod-eq_of_lt (pow-lt {i = n} {j = 64} h)

pub returns : goal.returns
returns c = cut c.args.word c.args.n (ap (λ (x : ℕ). x - 1) (power c.args.n c.requires))
