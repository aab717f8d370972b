-- The bytes of a payload: how many they are, and that they are the whole bytes with the rest of the bits behind them.
use mathlib.Core.Path.{◌≡◌, refl, sym, ap, ◌∙◌}
use mathlib.Core.List.{List, [], ◌∷◌, ◌++◌, append-nil}
use Prim.Native.Nat.{ℕ, zero, suc, ◌+◌, ◌%◌, ◌/◌, ◌^◌, ◌≤◌, ◌<◌}
use native.Mathlib.Nat.{not-suc-le-zero}
use native.Mathlib.Omega.{arith}
use lib.ListN.{length, get_or, set, take, length-append}
use lib.Seq.{length-take-le}
use Rattle.bunch_places.specs.Bytes.{pasted, bytes_of, low_bits, payload_bytes}
use Rattle.bunch_places.proofs.Pastes.{pasted_last}

no_rest : (n byte : ℕ) → n ≡ 0 → low_bits n byte ≡ []
no_rest n byte e = rw e refl

a_rest : (n byte : ℕ) → 0 < n → low_bits n byte ≡ byte % 2 ^ n ∷ []
a_rest zero byte h = absurd (not-suc-le-zero h)
a_rest (suc n) byte h = refl

module _ (bits : ℕ) (src : List ℕ) where
  pub whole_bytes : bits % 8 ≡ 0 → payload_bytes bits src ≡ take (bits / 8) src
  unfolding payload_bytes
  whole_bytes e = ap (λ (t : List ℕ). take (bits / 8) src ++ t) (no_rest (bits % 8) (get_or src (bits / 8) 0) e) ∙ append-nil (take (bits / 8) src)

  pub with_rest : 0 < bits % 8 → payload_bytes bits src ≡ take (bits / 8) src ++ (get_or src (bits / 8) 0 % 2 ^ (bits % 8) ∷ [])
  unfolding payload_bytes
  with_rest h = ap (λ (t : List ℕ). take (bits / 8) src ++ t) (a_rest (bits % 8) (get_or src (bits / 8) 0) h)

  module _ (h : bytes_of bits ≤ length src) where
    length_whole : length (take (bits / 8) src) ≡ bits / 8
    length_whole = length-take-le (bits / 8) src (omega arith)

    -- the last byte, behind the whole ones
    pub pasted_rest : (at : ℕ) (out : List ℕ) → 0 < bits % 8 → at + bytes_of bits ≤ length out
        → set (pasted at (take (bits / 8) src) out) (at + bits / 8) (get_or src (bits / 8) 0 % 2 ^ (bits % 8)) ≡ pasted at (payload_bytes bits src) out
    pasted_rest at out g f =
        pasted_last at (at + bits / 8) (get_or src (bits / 8) 0 % 2 ^ (bits % 8)) (take (bits / 8) src) out (omega (arith, length_whole)) (omega arith)
        ∙ ap (λ (b : List ℕ). pasted at b out) (sym (with_rest g))

    pub length_payload : length (payload_bytes bits src) ≡ bytes_of bits
    length_payload = by_rest (bits % 8) refl
      where
        by_rest : (n : ℕ) → bits % 8 ≡ n → length (payload_bytes bits src) ≡ bytes_of bits
        by_rest zero e = ap length (whole_bytes e) ∙ length_whole ∙ omega arith
        by_rest (suc n) e = ap length (with_rest (omega arith)) ∙ simp length-append (omega (arith, length_whole))
