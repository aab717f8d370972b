-- Lists of bits, lowest first: what a writer adds to a packet, and what adding does to its bytes.
use Rattle.std.specs.Prelude.{ℕ, zero, suc, ◌+◌, ◌*◌, ◌/◌, ◌%◌, ◌^◌, Bool, true, false, cond, List, [], ◌∷◌, ◌++◌, eqb, ltb, get_or, set}
use mir.Val.{bool_byte}
use Rattle.bitio_bits.specs.Bits.{bit_at}
use Rattle.bitio_window.specs.Numbers.{log2}

-- the n lowest bits of a number
unfoldable pub number_bits : ℕ → ℕ → List Bool
number_bits zero x = []
number_bits (suc n) x = eqb (x % 2) 1 ∷ number_bits n (x / 2)

-- the n bits from bit k of a list of bytes on
unfoldable pub bits_from : List ℕ → ℕ → ℕ → List Bool
bits_from d k zero = []
bits_from d k (suc n) = eqb (bit_at d k) 1 ∷ bits_from d (k + 1) n

-- the bits where they are wanted
unfoldable pub only_if : Bool → List Bool → List Bool
only_if true bits = bits
only_if false bits = []

-- "Packed: bytes of seven value bits, low bit meaning "more", least significant first"; "The writer gives shortest packed
-- numbers". The first argument counts the bytes that may follow.
unfoldable pub packed_up_to : ℕ → ℕ → List Bool
packed_up_to zero x = false ∷ number_bits 7 x
packed_up_to (suc n) x = cond (ltb x 128) (false ∷ number_bits 7 x) (true ∷ (number_bits 7 x ++ packed_up_to n (x / 128)))

-- "at most five"
unfoldable pub packed_bits : ℕ → List Bool
packed_bits = packed_up_to 4

-- "Read w bits as v. If v + 2^w >= m, the answer is v; else one more bit adds 2^w."
unfoldable pub serialized_bits : ℕ → ℕ → List Bool
serialized_bits m x =
    let w = log2 m in
    number_bits w x ++ only_if (ltb (x % 2 ^ w + 2 ^ w) m) (number_bits 1 (x / 2 ^ w))

-- A bit put at bit k. "Bits before the cursor … stay; that byte's spare bits are zero": those after bit k in its byte.
unfoldable pub put_bit : List ℕ → ℕ → Bool → List ℕ
put_bit p k b = set p (k / 8) (get_or p (k / 8) 0 % 2 ^ (k % 8) + bool_byte b * 2 ^ (k % 8))

-- one bit after the other; "bytes past the last one written stay"
unfoldable pub put_bits : List ℕ → ℕ → List Bool → List ℕ
put_bits p k [] = p
put_bits p k (b ∷ bits) = put_bits (put_bit p k b) (k + 1) bits
