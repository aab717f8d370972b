-- Bytes written over a part of lent memory, and the bytes of a payload.
use Rattle.std.specs.Prelude.{List, [], ◌∷◌, ◌++◌, ℕ, zero, suc, ◌+◌, ◌%◌, ◌/◌, ◌^◌, get_or, take, drop}
use Rattle.tables.specs.Columns.{laid}

-- what stands before place `at`, and the bytes over what stands from there on
unfoldable pub pasted : {A : Type 0} → ℕ → List A → List A → List A
pasted at bytes m = take at m ++ laid bytes (drop at m)

-- the n bytes from place `from` on
abbrev pub part : {A : Type 0} → ℕ → ℕ → List A → List A
part from n m = take n (drop from m)

-- those n bytes, from place `to` on too
abbrev pub moved : {A : Type 0} → ℕ → ℕ → ℕ → List A → List A
moved from to n m = pasted to (part from n m) m

abbrev pub bytes_of : ℕ → ℕ
bytes_of bits = (bits + 7) / 8

-- the low bits of a byte, where there are any
abbrev pub low_bits : ℕ → ℕ → List ℕ
low_bits zero byte = []
low_bits (suc n) byte = byte % 2 ^ suc n ∷ []

-- the first bits of a payload as bytes, the spare high bits of the last one zero
unfoldable pub payload_bytes : ℕ → List ℕ → List ℕ
payload_bytes bits src = take (bits / 8) src ++ low_bits (bits % 8) (get_or src (bits / 8) 0)
