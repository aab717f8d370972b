-- An entry of a table of masks, and what it cuts of a word.
use mathlib.Core.Path.{◌≡◌}
use mathlib.Core.List.{List, [], ◌∷◌}
use mathlib.Core.Bool.{true}
use Prim.Native.Nat.{ℕ, ◌%◌, ◌≤◌, zero, suc, ◌+◌, ◌-◌, ◌^◌, ◌<◌}
use native.Mathlib.Nat.{not-suc-le-zero, le_of_suc-le-suc, mod-le}
use native.Mathlib.Omega.{arith}
use lib.Bits.{bit_and, and_mask, mask_lt}
use lib.Dec.{eqb}
use lib.ListN.{length, get_or}
use borrow.Author.Tests.{eqb-true}
use Rattle.std.proofs.lemmas.Bool.{and_parts}
use Rattle.bitio_bits.specs.Masks.{masks_from}

entry_from : (k : ℕ) (l : List ℕ) (n : ℕ) → masks_from k l ≡ true → n < length l → get_or l n 0 ≡ 2 ^ (k + n) - 1
entry_from k [] n e h = absurd (not-suc-le-zero h)
entry_from k (x ∷ l) zero e h =
    let z : k + 0 ≡ k = omega arith in
    rw z (eqb-true x (2 ^ k - 1) (and_parts (eqb x (2 ^ k - 1)) (masks_from (suc k) l) e).0)
entry_from k (x ∷ l) (suc n) e h =
    let z : k + suc n ≡ suc k + n = omega arith in
    rw z (entry_from (suc k) l n (and_parts (eqb x (2 ^ k - 1)) (masks_from (suc k) l) e).1 (le_of_suc-le-suc h))

pub entry : (l : List ℕ) (n : ℕ) → masks_from 0 l ≡ true → n < length l → get_or l n 0 ≡ 2 ^ n - 1
entry l n e h = let z : 0 + n ≡ n = omega arith in rw z at (entry_from 0 l n e h)

-- what a mask cuts of a word
pub cut : (x n : ℕ) {m : ℕ} → m ≡ 2 ^ n - 1 → (bit_and x m ≡ x % 2 ^ n) × (bit_and x m ≤ x) × (bit_and x m < 2 ^ n)
cut x n e = rw e (and_mask x n, rw (and_mask x n) (mod-le x (2 ^ n)), mask_lt x n)
