-- What a copy leaves in its target.
use Rattle.std.specs.Prelude.{ℕ, zero, suc, ◌+◌, ◌*◌, ◌-◌, min, List, [], ◌∷◌, ltb}
use Rattle.bitio_bits.specs.Bits.{bits_at}
use Rattle.bitio_window.specs.Refusals.{beyond}
use Rattle.bitio_window.specs.Parse.{Answer, got, refused, Parse, ◌>>◌, refuse_if}
use Rattle.bitio_window.specs.Reads.{sound, skip}

-- The target with the n bits from bit k on in its first bytes.
-- "Copies clear the spare high bits of the last byte and touch no later byte."
unfoldable pub copied : List ℕ → List ℕ → ℕ → ℕ → List ℕ
copied [] d k n = []
copied (x ∷ xs) d k zero = x ∷ xs
copied (x ∷ xs) d k (suc n) = bits_at d k (min 8 (suc n)) ∷ copied xs d (k + 8) (suc n - 8)

-- "A window past its data is 5 …; next a cursor past its window, 5 …; next a short copy target": requested, available bits
unfoldable pub copy_bits : ℕ → ℕ → Parse Unit
copy_bits room n = do
  sound
  refuse_if (ltb (8 * room) n) (beyond n (8 * room))
  skip n

-- "a refused copy … has written nothing"
unfoldable pub copy_leaves : Answer Unit → List ℕ → List ℕ → ℕ → ℕ → List ℕ
copy_leaves (got u w) target d k n = copied target d k n
copy_leaves (refused e w) target d k n = target
