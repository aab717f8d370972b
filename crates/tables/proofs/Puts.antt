-- Laws of a table: what a channel has after `put` and `without`, the order, and how many channels there are.
use mathlib.Core.Path.{◌≡◌, refl, ap, sym, ◌∙◌}
use mathlib.Core.Bool.{Bool, true, false, cond}
use mathlib.Core.List.{[], ◌∷◌}
use Prim.Native.Nat.{ℕ, suc, ◌<◌}
use native.Mathlib.Omega.{arith}
use lib.Dec.{eqb, ltb}
use lib.ListN.{length}
use borrow.Author.Tests.{eqb-true, eqb-false, eq-eqb, ne_eqb, ltb-true, ltb-false, lt-ltb, le-ltb}
use Rattle.tables.specs.Columns.{above, ascending}
use Rattle.tables.specs.Tables.{Table, Found, none, found, get, without, added_channel, put, channels}
use Rattle.tables.proofs.Ascending.{above_rest, above_less, ascending_rest}

after : (c d : ℕ) → eqb c d ≡ false → ltb d c ≡ false → c < d
after c d e f = let q : c ≡ d → ⊥ = eqb-false c d e in omega (arith, ltb-false d c f, q)

module _ {A : Type 0} where
  never_found : {v : A} → ◌≡◌ {A = Found A} (found v) none → ⊥
  never_found e = let z : ◌≡◌ {A = ℕ} 0 1 = cc in omega arith

  pub get_without_same : (c : ℕ) (t : Table A) → get c (without c t) ≡ none
  unfolding get without
  get_without_same c [] = refl
  get_without_same c (x ∷ t) = go (eqb c x.0) refl (get_without_same c t)
    where
      go : (b : Bool) → eqb c x.0 ≡ b → get c (without c t) ≡ none → get c (cond b (without c t) (x ∷ without c t)) ≡ none
      go true e ih = ih
      go false e ih = rw e ih

  pub get_without_other : (d c : ℕ) (t : Table A) → (d ≡ c → ⊥) → get d (without c t) ≡ get d t
  unfolding get without
  get_without_other d c [] n = refl
  get_without_other d c (x ∷ t) n = go (eqb c x.0) refl (get_without_other d c t n)
    where
      go : (b : Bool) → eqb c x.0 ≡ b → get d (without c t) ≡ get d t → get d (cond b (without c t) (x ∷ without c t)) ≡ get d (x ∷ t)
      go true e ih = let f : eqb d x.0 ≡ false = ne_eqb d x.0 (λ q. n (q ∙ sym (eqb-true c x.0 e))) in rw f ih
      go false e ih = rw ih

  get_added_same : (c : ℕ) (v : A) (t : Table A) → get c (added_channel c v t) ≡ found v
  unfolding get added_channel
  get_added_same c v [] = rw (eq-eqb c c refl) refl
  get_added_same c v (x ∷ t) = go (ltb x.0 c) refl (get_added_same c v t)
    where
      go : (b : Bool) → ltb x.0 c ≡ b → get c (added_channel c v t) ≡ found v → get c (cond b (x ∷ added_channel c v t) ((c, v) ∷ (x ∷ t))) ≡ found v
      go true e ih = let f : eqb c x.0 ≡ false = ne_eqb c x.0 (λ q. omega (arith, ltb-true x.0 c e)) in rw f ih
      go false e ih = rw (eq-eqb c c refl) refl

  get_added_other : (d c : ℕ) (v : A) (t : Table A) → (d ≡ c → ⊥) → get d (added_channel c v t) ≡ get d t
  unfolding get added_channel
  get_added_other d c v [] n = rw (ne_eqb d c n) refl
  get_added_other d c v (x ∷ t) n = go (ltb x.0 c) (get_added_other d c v t n)
    where
      go : (b : Bool) → get d (added_channel c v t) ≡ get d t → get d (cond b (x ∷ added_channel c v t) ((c, v) ∷ (x ∷ t))) ≡ get d (x ∷ t)
      go true ih = rw ih
      go false ih = rw (ne_eqb d c n) refl

  pub get_put_same : (c : ℕ) (v : A) (t : Table A) → get c (put c v t) ≡ found v
  unfolding put
  get_put_same c v t = get_added_same c v (without c t)

  pub get_put_other : (d c : ℕ) (v : A) (t : Table A) → (d ≡ c → ⊥) → get d (put c v t) ≡ get d t
  unfolding put
  get_put_other d c v t n = get_added_other d c v (without c t) n ∙ get_without_other d c t n

  -- a channel that is not there
  pub get_none_rest : (c : ℕ) (x : ℕ × A) (t : Table A) → get c (x ∷ t) ≡ none → (eqb c x.0 ≡ false) × (get c t ≡ none)
  unfolding get
  get_none_rest c x t = go (eqb c x.0)
    where
      go : (b : Bool) → cond b (found x.1) (get c t) ≡ none → (b ≡ false) × (get c t ≡ none)
      go true e = absurd (never_found e)
      go false e = (refl, e)

  pub without_none : (c : ℕ) (t : Table A) → get c t ≡ none → without c t ≡ t
  unfolding without
  without_none c [] e = refl
  without_none c (x ∷ t) e = let p = get_none_rest c x t e in rw p.0 (ap (λ (s : Table A). x ∷ s) (without_none c t p.1))

  -- nor one below them all
  pub get_past : (c : ℕ) (t : Table A) → above c (channels t) ≡ true → get c t ≡ none
  unfolding get
  get_past c [] a = refl
  get_past c (x ∷ t) a =
      let p = above_rest c x.0 (channels t) a in
      rw (ne_eqb c x.0 (λ e. omega (arith, p.0))) (get_past c t (above_less c x.0 (channels t) (omega (arith, p.0)) p.1))

  pub without_past : (c : ℕ) (t : Table A) → above c (channels t) ≡ true → without c t ≡ t
  without_past c t a = without_none c t (get_past c t a)

  added_past : (c : ℕ) (v : A) (t : Table A) → above c (channels t) ≡ true → added_channel c v t ≡ (c, v) ∷ t
  unfolding added_channel
  added_past c v [] a = refl
  added_past c v (x ∷ t) a = let p = above_rest c x.0 (channels t) a in rw (le-ltb x.0 c (omega (arith, p.0))) refl

  pub put_past : (c : ℕ) (v : A) (t : Table A) → above c (channels t) ≡ true → put c v t ≡ (c, v) ∷ t
  unfolding put
  put_past c v t a = rw (without_past c t a) (added_past c v t a)

  -- the order is kept
  above_without : (x c : ℕ) (t : Table A) → above x (channels t) ≡ true → above x (channels (without c t)) ≡ true
  unfolding without above
  above_without x c [] a = refl
  above_without x c (y ∷ t) a =
      let p = above_rest x y.0 (channels t) a in
      go (eqb c y.0) p.0 (above_without x c t (above_less x y.0 (channels t) (omega (arith, p.0)) p.1)) (above_without y.0 c t p.1)
    where
      go : (b : Bool) → x < y.0 → above x (channels (without c t)) ≡ true → above y.0 (channels (without c t)) ≡ true
          → above x (channels (cond b (without c t) (y ∷ without c t))) ≡ true
      go true h gone kept = gone
      go false h gone kept = rw (lt-ltb x y.0 h) kept

  pub without_ascends : (c : ℕ) (t : Table A) → ascending (channels t) ≡ true → ascending (channels (without c t)) ≡ true
  unfolding without ascending
  without_ascends c [] a = refl
  without_ascends c (y ∷ t) a = go (eqb c y.0) (without_ascends c t (ascending_rest y.0 (channels t) a))
    where
      go : (b : Bool) → ascending (channels (without c t)) ≡ true → ascending (channels (cond b (without c t) (y ∷ without c t))) ≡ true
      go true ih = ih
      go false ih = above_without y.0 c t a

  above_added : (x c : ℕ) (v : A) (t : Table A) → x < c → get c t ≡ none → above x (channels t) ≡ true → above x (channels (added_channel c v t)) ≡ true
  unfolding added_channel above
  above_added x c v [] h n a = rw (lt-ltb x c h) refl
  above_added x c v (y ∷ t) h n a =
      let m = get_none_rest c y t n in
      let p = above_rest x y.0 (channels t) a in
      go (ltb y.0 c) refl m.0 p.0 p.1 (λ f. above_added y.0 c v t f m.1 p.1)
    where
      go : (b : Bool) → ltb y.0 c ≡ b → eqb c y.0 ≡ false → x < y.0 → above y.0 (channels t) ≡ true → (y.0 < c → above y.0 (channels (added_channel c v t)) ≡ true)
          → above x (channels (cond b (y ∷ added_channel c v t) ((c, v) ∷ (y ∷ t)))) ≡ true
      go true e m p q ih = rw (lt-ltb x y.0 p) (ih (ltb-true y.0 c e))
      go false e m p q ih = rw (lt-ltb x c h, lt-ltb c y.0 (after c y.0 m e)) q

  added_ascends : (c : ℕ) (v : A) (t : Table A) → get c t ≡ none → ascending (channels t) ≡ true → ascending (channels (added_channel c v t)) ≡ true
  unfolding added_channel ascending above
  added_ascends c v [] n a = refl
  added_ascends c v (y ∷ t) n a = go (ltb y.0 c) refl (get_none_rest c y t n)
    where
      go : (b : Bool) → ltb y.0 c ≡ b → (eqb c y.0 ≡ false) × (get c t ≡ none) → ascending (channels (cond b (y ∷ added_channel c v t) ((c, v) ∷ (y ∷ t)))) ≡ true
      go true e m = above_added y.0 c v t (ltb-true y.0 c e) m.1 a
      go false e m = rw (lt-ltb c y.0 (after c y.0 m.0 e)) a

  pub put_ascends : (c : ℕ) (v : A) (t : Table A) → ascending (channels t) ≡ true → ascending (channels (put c v t)) ≡ true
  unfolding put
  put_ascends c v t a = added_ascends c v (without c t) (get_without_same c t) (without_ascends c t a)

  -- how many channels there are
  length_added : (c : ℕ) (v : A) (t : Table A) → length (added_channel c v t) ≡ suc (length t)
  unfolding added_channel
  length_added c v [] = refl
  length_added c v (x ∷ t) = go (ltb x.0 c) (length_added c v t)
    where
      go : (b : Bool) → length (added_channel c v t) ≡ suc (length t) → length (cond b (x ∷ added_channel c v t) ((c, v) ∷ (x ∷ t))) ≡ suc (suc (length t))
      go true ih = ap suc ih
      go false ih = refl

  pub length_put_new : (c : ℕ) (v : A) (t : Table A) → get c t ≡ none → length (put c v t) ≡ suc (length t)
  unfolding put
  length_put_new c v t n = rw (without_none c t n) (length_added c v t)

  pub length_without_there : (c : ℕ) {v : A} (t : Table A) → get c t ≡ found v → ascending (channels t) ≡ true → suc (length (without c t)) ≡ length t
  unfolding get without ascending
  length_without_there c [] e a = absurd (never_found (sym e))
  length_without_there c {v} (x ∷ t) e a = go (eqb c x.0) refl e (λ f. length_without_there c t f (ascending_rest x.0 (channels t) a))
    where
      go : (b : Bool) → eqb c x.0 ≡ b → cond b (found x.1) (get c t) ≡ found v → (get c t ≡ found v → suc (length (without c t)) ≡ length t)
          → suc (length (cond b (without c t) (x ∷ without c t))) ≡ suc (length t)
      go true q e ih = ap (λ (s : Table A). suc (length s)) (without_past c t (rw (eqb-true c x.0 q) a))
      go false q e ih = ap suc (ih e)

  pub length_put_there : (c : ℕ) {u : A} (v : A) (t : Table A) → get c t ≡ found u → ascending (channels t) ≡ true → length (put c v t) ≡ length t
  unfolding put
  length_put_there c v t e a = length_added c v (without c t) ∙ length_without_there c t e a

  -- one place of a table
  pub get_over : (c : ℕ) (x : ℕ × A) (t : Table A) → x.0 < c → get c (x ∷ t) ≡ get c t
  unfolding get
  get_over c x t h = rw (ne_eqb c x.0 (λ e. omega arith)) refl

  pub without_over : (c : ℕ) (x : ℕ × A) (t : Table A) → x.0 < c → without c (x ∷ t) ≡ x ∷ without c t
  unfolding without
  without_over c x t h = rw (ne_eqb c x.0 (λ e. omega arith)) refl

  pub put_over : (c : ℕ) (v : A) (x : ℕ × A) (t : Table A) → x.0 < c → put c v (x ∷ t) ≡ x ∷ put c v t
  unfolding put added_channel
  put_over c v x t h = rw (without_over c x t h, lt-ltb x.0 c h) refl

  pub get_on : (c : ℕ) (x : ℕ × A) (t : Table A) → x.0 ≡ c → get c (x ∷ t) ≡ found x.1
  unfolding get
  get_on c x t e = rw (eq-eqb c x.0 (sym e)) refl

  pub without_on : (c : ℕ) (x : ℕ × A) (t : Table A) → x.0 ≡ c → above x.0 (channels t) ≡ true → without c (x ∷ t) ≡ t
  unfolding without
  without_on c x t e a = rw (eq-eqb c x.0 (sym e)) (without_past c t (rw e at a))

  pub put_on : (c : ℕ) (v : A) (x : ℕ × A) (t : Table A) → x.0 ≡ c → above x.0 (channels t) ≡ true → put c v (x ∷ t) ≡ (x.0, v) ∷ t
  unfolding put
  put_on c v x t e a = rw (without_on c x t e a, e) (added_past c v t (rw e at a))
