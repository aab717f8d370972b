-- The words of a place, one by one.
use Prim.Native.Nat.{ℕ, zero, suc, ◌+◌}
use mathlib.Core.Path.{◌≡◌, sym, ap, ◌∙◌}
use mathlib.Core.List.{List, [], ◌∷◌}
use native.Mathlib.Omega.{arith}
use lib.ListN.{length, get_or, drop}
use lib.Seq.{drop-cons, drop-length}

-- n words from index i on
unfoldable pub words_from : ℕ → ℕ → List ℕ → List ℕ
words_from zero i p = []
words_from (suc n) i p = get_or p i 0 ∷ words_from n (suc i) p

pub words_rest : (n i : ℕ) (p : List ℕ) → i + n ≡ length p → words_from n i p ≡ drop i p
unfolding words_from
words_rest zero i p e = let f : i ≡ length p = omega arith in rw f (sym (drop-length p))
words_rest (suc n) i p e = ap (λ (t : List ℕ). get_or p i 0 ∷ t) (words_rest n (suc i) p (omega arith)) ∙ sym (drop-cons p i 0 (omega arith))
