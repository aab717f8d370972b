-- What stands in two columns, as a table: a slot says what `get`, `put` and `without` are there.
use mathlib.Core.Path.{◌≡◌, refl, ap, ◌∙◌, subst}
use mathlib.Core.Bool.{Bool, true, false, cond}
use mathlib.Core.List.{List, [], ◌∷◌}
use Prim.Native.Nat.{ℕ, zero, suc, ◌≤◌, ◌<◌}
use native.Mathlib.Omega.{arith}
use lib.Dec.{eqb, ltb}
use lib.ListN.{length, get_or, set, take}
use lib.Seq.{length-take-le}
use borrow.Author.Tests.{eqb-true, eqb-false, ltb-true, ltb-false, lt-ltb}
use Rattle.tables.specs.Tables.{Slot}
use Rattle.std.specs.Prelude.{Ok, Err}
use Rattle.tables.specs.Columns.{inserted_at, removed_at, beside, above, ascending}
use Rattle.tables.specs.Tables.{Table, none, found, get, without, put, channels, entries, further, slot_of}
use Rattle.tables.proofs.Ascending.{ascending_rest}
use Rattle.tables.proofs.Columns.{beside_first}
use Rattle.tables.proofs.Puts.{get_past, without_none, put_past, get_over, without_over, put_over, get_on, without_on, put_on}

-- c stands at place i, all before it below
data Stands (c : ℕ) : List ℕ → ℕ → Type 0 where
  here : {x : ℕ} {l : List ℕ} → x ≡ c → Stands c (x ∷ l) zero
  past : {x : ℕ} {l : List ℕ} {i : ℕ} → x < c → Stands c l i → Stands c (x ∷ l) (suc i)

-- c would go to place i, all before it below and the next above
data Lacks (c : ℕ) : List ℕ → ℕ → Type 0 where
  end : Lacks c [] zero
  before : {x : ℕ} {l : List ℕ} → c < x → Lacks c (x ∷ l) zero
  beyond : {x : ℕ} {l : List ℕ} {i : ℕ} → x < c → Lacks c l i → Lacks c (x ∷ l) (suc i)

-- what a slot says
abbrev Says : ℕ → List ℕ → Slot → Type 0
Says c l (Ok i) = Stands c l i
Says c l (Err i) = Lacks c l i

says_further : (c x : ℕ) (l : List ℕ) (s : Slot) → x < c → Says c l s → Says c (x ∷ l) (further s)
unfolding further
says_further c x l (Ok i) h s = past h s
says_further c x l (Err i) h s = beyond h s

says : (c : ℕ) (l : List ℕ) → Says c l (slot_of c l)
unfolding slot_of
says c [] = end
says c (x ∷ l) = go (ltb x c) refl (eqb x c) refl (says c l)
  where
    go : (a : Bool) → ltb x c ≡ a → (b : Bool) → eqb x c ≡ b → Says c l (slot_of c l) → Says c (x ∷ l) (cond a (further (slot_of c l)) (cond b (Ok 0) (Err 0)))
    go true e b f s = says_further c x l (slot_of c l) (ltb-true x c e) s
    go false e true f s = here (eqb-true x c f)
    go false e false f s = before {x = x} (let n : x ≡ c → ⊥ = eqb-false x c f in omega (arith, ltb-false x c e, n))

module _ {c : ℕ} where
  stands_within : {cs : List ℕ} {i : ℕ} → Stands c cs i → i < length cs
  stands_within (here x) = omega arith
  stands_within (past x s) = let h = stands_within s in omega arith

  lacks_within : {cs : List ℕ} {i : ℕ} → Lacks c cs i → i ≤ length cs
  lacks_within end = omega arith
  lacks_within (before x) = omega arith
  lacks_within (beyond x s) = let h = lacks_within s in omega arith

module _ {A : Type 0} where
  rest_above : (x : ℕ) (cs : List ℕ) (vs : List A) → length cs ≡ length vs → above x cs ≡ true → above x (channels (entries cs vs)) ≡ true
  rest_above x cs vs e a = rw (beside_first cs vs e) a

  all_above : (c x : ℕ) (w : A) (cs : List ℕ) (vs : List A) → c < x → length cs ≡ length vs → above x cs ≡ true → above c (channels ((x, w) ∷ entries cs vs)) ≡ true
  unfolding above
  all_above c x w cs vs h e a = rw (lt-ltb c x h) (rest_above x cs vs e a)

  onto : (e : ℕ × A) {t u : Table A} → t ≡ u → ◌≡◌ {A = Table A} (e ∷ t) (e ∷ u)
  onto e p = ap (λ (t : Table A). e ∷ t) p

  module _ {c : ℕ} where
    stands_get : {cs : List ℕ} {i : ℕ} (d : A) (vs : List A) → Stands c cs i → length cs ≡ length vs → get c (entries cs vs) ≡ found (get_or vs i d)
    unfolding beside
    stands_get d [] (here h) e = absurd (omega arith)
    stands_get d [] (past h s) e = absurd (omega arith)
    stands_get d (w ∷ vs) (here {x} {l} h) e = get_on c (x, w) (entries l vs) h
    stands_get d (w ∷ vs) (past {x} {l} h s) e = get_over c (x, w) (entries l vs) h ∙ stands_get d vs s (omega arith)

    stands_put : {cs : List ℕ} {i : ℕ} (v : A) (vs : List A) → Stands c cs i → length cs ≡ length vs → ascending cs ≡ true
        → put c v (entries cs vs) ≡ entries cs (set vs i v)
    unfolding beside ascending
    stands_put v [] (here h) e a = absurd (omega arith)
    stands_put v [] (past h s) e a = absurd (omega arith)
    stands_put v (w ∷ vs) (here {x} {l} h) e a = put_on c v (x, w) (entries l vs) h (rest_above x l vs (omega arith) a)
    stands_put v (w ∷ vs) (past {x} {l} h s) e a = put_over c v (x, w) (entries l vs) h ∙ onto (x, w) (stands_put v vs s (omega arith) (ascending_rest x l a))

    stands_without : {cs : List ℕ} {i : ℕ} (vs : List A) → Stands c cs i → length cs ≡ length vs → ascending cs ≡ true
        → without c (entries cs vs) ≡ entries (removed_at i cs) (removed_at i vs)
    unfolding beside ascending removed_at
    stands_without [] (here h) e a = absurd (omega arith)
    stands_without [] (past h s) e a = absurd (omega arith)
    stands_without (w ∷ vs) (here {x} {l} h) e a = without_on c (x, w) (entries l vs) h (rest_above x l vs (omega arith) a)
    stands_without (w ∷ vs) (past {x} {l} h s) e a = without_over c (x, w) (entries l vs) h ∙ onto (x, w) (stands_without vs s (omega arith) (ascending_rest x l a))

    lacks_get : {cs : List ℕ} {i : ℕ} (vs : List A) → Lacks c cs i → length cs ≡ length vs → ascending cs ≡ true → get c (entries cs vs) ≡ none
    unfolding beside ascending get
    lacks_get vs end e a = refl
    lacks_get [] (before h) e a = absurd (omega arith)
    lacks_get [] (beyond h s) e a = absurd (omega arith)
    lacks_get (w ∷ vs) (before {x} {l} h) e a = get_past c ((x, w) ∷ entries l vs) (all_above c x w l vs h (omega arith) a)
    lacks_get (w ∷ vs) (beyond {x} {l} h s) e a = get_over c (x, w) (entries l vs) h ∙ lacks_get vs s (omega arith) (ascending_rest x l a)

    lacks_put : {cs : List ℕ} {i : ℕ} (v : A) (vs : List A) → Lacks c cs i → length cs ≡ length vs → ascending cs ≡ true
        → put c v (entries cs vs) ≡ entries (inserted_at i c cs) (inserted_at i v vs)
    unfolding beside ascending above inserted_at
    lacks_put v [] end e a = put_past c v [] refl
    lacks_put v (w ∷ vs) end e a = absurd (omega arith)
    lacks_put v [] (before h) e a = absurd (omega arith)
    lacks_put v [] (beyond h s) e a = absurd (omega arith)
    lacks_put v (w ∷ vs) (before {x} {l} h) e a = put_past c v ((x, w) ∷ entries l vs) (all_above c x w l vs h (omega arith) a)
    lacks_put v (w ∷ vs) (beyond {x} {l} h s) e a = put_over c v (x, w) (entries l vs) h ∙ onto (x, w) (lacks_put v vs s (omega arith) (ascending_rest x l a))

-- the channel's place, c at place i of cs
module _ (c i : ℕ) (cs : List ℕ) (slot : slot_of c cs ≡ Ok i) where
  stands : Stands c cs i
  stands = subst (Says c cs) slot (says c cs)

  pub at_within : i < length cs
  at_within = stands_within stands

  module _ {A : Type 0} (vs : List A) (sizes : length cs ≡ length vs) where
    pub at_get : (d : A) → get c (entries cs vs) ≡ found (get_or vs i d)
    at_get d = stands_get d vs stands sizes

    module _ (ascends : ascending cs ≡ true) where
      pub at_put : (v : A) → put c v (entries cs vs) ≡ entries cs (set vs i v)
      at_put v = stands_put v vs stands sizes ascends

      pub at_without : without c (entries cs vs) ≡ entries (removed_at i cs) (removed_at i vs)
      at_without = stands_without vs stands sizes ascends

-- no channel: c would go to place i of cs
module _ (c i : ℕ) (cs : List ℕ) (slot : slot_of c cs ≡ Err i) where
  lacks : Lacks c cs i
  lacks = subst (Says c cs) slot (says c cs)

  pub free_within : i ≤ length cs
  free_within = lacks_within lacks

  module _ {A : Type 0} (vs : List A) (sizes : length cs ≡ length vs) (ascends : ascending cs ≡ true) where
    pub free_get : get c (entries cs vs) ≡ none
    free_get = lacks_get vs lacks sizes ascends

    pub free_put : (v : A) → put c v (entries cs vs) ≡ entries (inserted_at i c cs) (inserted_at i v vs)
    free_put v = lacks_put v vs lacks sizes ascends

    pub free_without : without c (entries cs vs) ≡ entries cs vs
    free_without = without_none c (entries cs vs) free_get

-- the same of a column's live places
module _ (c i live : ℕ) (m : List ℕ) (fits : live ≤ length m) where
  pub at_live : slot_of c (take live m) ≡ Ok i → i < live
  at_live slot = omega (arith, at_within c i (take live m) slot, length-take-le live m fits)

  pub free_live : slot_of c (take live m) ≡ Err i → i ≤ live
  free_live slot = omega (arith, free_within c i (take live m) slot, length-take-le live m fits)
