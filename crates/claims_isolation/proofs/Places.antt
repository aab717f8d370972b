-- A table whose channels are all among some has at most as many places as those are: each of them takes one away.
use Prim.Native.Nat.{ℕ, suc, ◌≤◌, ◌<◌}
use mathlib.Core.Path.{◌≡◌, refl, sym, ◌∙◌}
use mathlib.Core.Bool.{Bool, true, false, ◌||◌}
use mathlib.Core.List.{List, [], ◌∷◌}
use native.Mathlib.Omega.{arith}
use lib.Dec.{eqb}
use lib.ListN.{length}
use borrow.Author.Tests.{eqb-true, eqb-false, eq-eqb}
use Rattle.tables.specs.Columns.{ascending}
use Rattle.tables.specs.Tables.{Table, Found, none, found, get, without, channels}
use Rattle.tables.proofs.Puts.{get_without_same, get_without_other, without_none, without_ascends, length_without_there}
use Rattle.claims_isolation.specs.Runs.{is_in}

module _ {A : Type 0} where
  abbrev pub Named : List ℕ → Table A → Type 0
  Named cs t = (d : ℕ) → is_in d cs ≡ false → get d t ≡ none

  none_there : (t : Table A) → ((d : ℕ) → get d t ≡ none) → length t ≡ 0
  unfolding get
  none_there [] n = refl
  none_there (e ∷ t) n =
      let z : found e.1 ≡ none = rw (eq-eqb e.0 e.0 refl) at (n e.0) in
      let w : ◌≡◌ {A = ℕ} 0 1 = cc in
      absurd (omega arith)

  length_without : (c : ℕ) (t : Table A) → ascending (channels t) ≡ true → length t ≤ suc (length (without c t))
  length_without c t a = go (get c t) refl
    where
      go : (x : Found A) → get c t ≡ x → length t ≤ suc (length (without c t))
      go none e = rw (without_none c t e) (omega arith)
      go (found v) e = omega (arith, length_without_there c t e a)

  named_without : (k : ℕ) (ks : List ℕ) (t : Table A) → Named (k ∷ ks) t → Named ks (without k t)
  unfolding is_in
  named_without k ks t n d e = go (eqb d k) refl
    where
      go : (b : Bool) → eqb d k ≡ b → get d (without k t) ≡ none
      go true q = rw (eqb-true d k q) (get_without_same k t)
      go false q = get_without_other d k t (eqb-false d k q) ∙ n d (rw q e)

  few : (cs : List ℕ) (t : Table A) → ascending (channels t) ≡ true → Named cs t → length t ≤ length cs
  unfolding is_in
  few [] t a n = omega (arith, none_there t (λ d. n d refl))
  few (k ∷ ks) t a n = omega (arith, few ks (without k t) (without_ascends k t a) (named_without k ks t n), length_without k t a)

  -- where one of them has nothing, a place is free
  pub fewer : (cs : List ℕ) (t : Table A) → ascending (channels t) ≡ true → Named cs t → (c : ℕ) → is_in c cs ≡ true → get c t ≡ none → length t < length cs
  unfolding is_in
  fewer [] t a n c i e = let w : ◌≡◌ {A = ℕ} 0 1 = cc in absurd (omega arith)
  fewer (k ∷ ks) t a n c i e = go (eqb c k) refl i (fewer ks (without k t) (without_ascends k t a) (named_without k ks t n) c)
    where
      free : k ≡ c → Named ks t
      free q d f = rw (without_none k t (rw q e)) at (named_without k ks t n d f)

      go : (b : Bool) → eqb c k ≡ b → (b || is_in c ks) ≡ true → (is_in c ks ≡ true → get c (without k t) ≡ none → length (without k t) < length ks)
          → length t < suc (length ks)
      go true q j ih = omega (arith, few ks t a (free (sym (eqb-true c k q))))
      go false q j ih = omega (arith, ih j (get_without_other c k t (eqb-false c k q) ∙ e), length_without k t a)
