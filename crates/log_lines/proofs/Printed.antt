-- What itoa prints is the text of the number.
use mathlib.Core.Path.{◌≡◌, ap, ◌∙◌}
use mathlib.Core.List.{List, [], ◌∷◌, ◌++◌}
use Prim.Native.Nat.{ℕ, suc, ◌+◌, ◌%◌, ◌/◌, ◌^◌, ◌≤◌, ◌<◌}
use native.Mathlib.Omega.{arith}
use lib.IntN.{ℤ, pos, negsuc, nat_abs}
use lib.Signed.{lt_z, le_z}
use mathlib.Core.Bool.{true}
use borrow.Author.Differences.{lt-true}
use mir.Syntax.{w32}
use mir.Val.{SFits}
use Rattle.std.specs.Fmt.{decimal as printed, signed_decimal as printed_signed}
use Rattle.std.proofs.lemmas.Fmt.{decimal_by_steps}
use Rattle.log_lines.specs.Decimal.{last_digit, decimal, decimal_signed}
use Rattle.log_lines.proofs.Digits.{no_digits, one_more}

pub one : (n : ℕ) → n < 10 → decimal n ≡ (48 + n) ∷ []
unfolding decimal
one n h =
    let last : last_digit n ≡ 48 + n = omega arith in
    rw (no_digits (n / 10) (omega arith), last)

more : (n : ℕ) (ds : List ℕ) → 10 ≤ n → decimal (n / 10) ≡ ds → decimal n ≡ ds ++ ((48 + n % 10) ∷ [])
unfolding decimal
more n ds h e = ap (λ (l : List ℕ). l ++ ((48 + n % 10) ∷ [])) (one_more (n / 10) (omega arith) ∙ e)

pub as_printed : (n : ℕ) → n < 2 ^ 64 → decimal n ≡ printed n
as_printed = decimal_by_steps (λ n ds. decimal n ≡ ds) one more

pub as_printed_signed : (x : ℤ) → SFits w32 x → decimal_signed x ≡ printed_signed x
unfolding decimal_signed
as_printed_signed (pos n) f = let h : n < 2 ^ 31 = f.sfits in as_printed n (omega arith)
as_printed_signed (negsuc n) f = let h : n < 2 ^ 31 = f.sfits in ap (λ (l : List ℕ). 45 ∷ l) (as_printed (suc n) (omega arith))

-- a signed number of one digit
pub one_signed : (x : ℤ) → le_z (pos 0) x ≡ true → lt_z x (pos 10) ≡ true → decimal_signed x ≡ (48 + nat_abs x) ∷ []
unfolding decimal_signed
one_signed (pos n) low high = one n (omega (arith, lt-true (pos n) (pos 10) high))
one_signed (negsuc n) low high = cc
