-- What putting bits leaves in a packet: the bits put, and all that document 01 says stays. Each law follows bit by bit.
use Prim.Native.Nat.{ℕ, zero, suc, ◌+◌, ◌*◌, ◌-◌, ◌/◌, ◌≤◌, ◌<◌}
use mathlib.Core.Path.{◌≡◌, refl, ap, ◌∙◌}
use mathlib.Core.Bool.{Bool, true, false}
use mathlib.Core.List.{List, [], ◌∷◌}
use native.Mathlib.Omega.{arith}
use lib.Dec.{eqb}
use lib.ListN.{length, get_or}
use mir.Val.{bool_byte}
use Rattle.bitio_bits.specs.Bits.{bit_at}
use Rattle.writer_spelling.specs.Bits.{bits_from, put_bit, put_bits}
use Rattle.writer.proofs.OneBit.{other_bytes, length_one, one_before, one_there, one_spare}

-- "Bits before the cursor … stay"
pub bits_before_stay : (p : List ℕ) (k : ℕ) (bits : List Bool) (j : ℕ) → j < k → bit_at (put_bits p k bits) j ≡ bit_at p j
unfolding put_bits
bits_before_stay p k [] j h = refl
bits_before_stay p k (b ∷ bits) j h = bits_before_stay (put_bit p k b) (k + 1) bits j (omega arith) ∙ one_before p k b j h

-- "and bytes past the last one written stay"
pub bytes_past_stay : (p : List ℕ) (k : ℕ) (bits : List Bool) (i : ℕ) → k + length bits ≤ 8 * i → get_or (put_bits p k bits) i 0 ≡ get_or p i 0
unfolding put_bits
bytes_past_stay p k [] i h = refl
bytes_past_stay p k (b ∷ bits) i h =
    bytes_past_stay (put_bit p k b) (k + 1) bits i (omega arith) ∙ other_bytes p k b i (λ e. omega arith)

-- "that byte's spare bits are zero"
pub spare_bits_zero : (p : List ℕ) (k : ℕ) (bits : List Bool) (j : ℕ) → 0 < length bits → k + length bits ≤ j → j / 8 ≡ (k + length bits - 1) / 8
    → bit_at (put_bits p k bits) j ≡ 0
unfolding put_bits
spare_bits_zero p k [] j l h e = absurd (omega arith)
spare_bits_zero p k (b ∷ []) j l h e = one_spare p k b j (omega arith) (e ∙ ap (λ (i : ℕ). i / 8) (omega arith))
spare_bits_zero p k (b ∷ c ∷ bits) j l h e = spare_bits_zero (put_bit p k b) (k + 1) (c ∷ bits) j (omega arith) (omega arith) (e ∙ ap (λ (i : ℕ). i / 8) (omega arith))

bit_of : (b : Bool) → eqb (bool_byte b) 1 ≡ b
bit_of true = refl
bit_of false = refl

pub bits_put_are_there : (p : List ℕ) (k : ℕ) (bits : List Bool) → k + length bits ≤ 8 * length p → bits_from (put_bits p k bits) k (length bits) ≡ bits
unfolding put_bits bits_from
bits_put_are_there p k [] h = refl
bits_put_are_there p k (b ∷ bits) h =
    let q = put_bit p k b in
    let first : eqb (bit_at (put_bits q (k + 1) bits) k) 1 ≡ b =
    ap (λ (x : ℕ). eqb x 1) (bits_before_stay q (k + 1) bits k (omega arith) ∙ one_there p k b (omega arith)) ∙ bit_of b in
    let rest = bits_put_are_there q (k + 1) bits (omega (arith, length_one p k b)) in
    cc

-- bits that are the same one by one
pub same_bits : (d e : List ℕ) (k n : ℕ) → ((j : ℕ) → j < k + n → bit_at d j ≡ bit_at e j) → bits_from d k n ≡ bits_from e k n
unfolding bits_from
same_bits d e k zero h = refl
same_bits d e k (suc n) h =
    let first : bit_at d k ≡ bit_at e k = h k (omega arith) in
    let rest : bits_from d (k + 1) n ≡ bits_from e (k + 1) n = same_bits d e (k + 1) n (λ j l. h j (omega arith)) in
    cc

-- what stands before a put stays
pub from_before_stays : (p : List ℕ) (k n j : ℕ) (bits : List Bool) → k + n ≤ j → bits_from (put_bits p j bits) k n ≡ bits_from p k n
from_before_stays p k n j bits h = same_bits (put_bits p j bits) p k n (λ i l. bits_before_stay p j bits i (omega arith))
