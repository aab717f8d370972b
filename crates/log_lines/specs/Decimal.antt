-- "Decimal numbers": the text of a number, as the bytes of its digits.
use Rattle.std.specs.Prelude.{ℕ, zero, suc, ◌+◌, ◌/◌, ◌%◌, cond, List, [], ◌∷◌, ◌++◌, eqb, ℤ, pos, negsuc}

abbrev pub last_digit : ℕ → ℕ
last_digit n = 48 + n % 10

-- The digits of a number, none of 0. The first argument only bounds the recursion.
unfoldable pub digits_from : ℕ → ℕ → List ℕ
digits_from zero n = []
digits_from (suc k) n = cond (eqb n 0) [] (digits_from k (n / 10) ++ (last_digit n ∷ []))

abbrev pub digits : ℕ → List ℕ
digits n = digits_from n n

-- no zeros before the first digit; of 0, one zero
unfoldable pub decimal : ℕ → List ℕ
decimal n = digits (n / 10) ++ (last_digit n ∷ [])

-- a minus before the digits of a number below 0
unfoldable pub decimal_signed : ℤ → List ℕ
decimal_signed (pos n) = decimal n
decimal_signed (negsuc n) = 45 ∷ decimal (suc n)
