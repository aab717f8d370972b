-- Two orders in which each channel's calls are the same list have the same calls: what holds of each call of one holds of the
-- other's, and their payloads are as many. Channel after channel is such an order.
use Prim.Native.Nat.{ℕ, ◌+◌}
use mathlib.Core.Path.{◌≡◌, refl, sym, ap, ◌∙◌}
use mathlib.Core.Bool.{Bool, true, false, cond, false≢true}
use mathlib.Core.List.{List, [], ◌∷◌, ◌++◌}
use native.Mathlib.Omega.{arith}
use lib.Dec.{eqb}
use borrow.Author.Tests.{eqb-true, eqb-false, eq-eqb, ne_eqb}
use Rattle.claims_isolation.specs.Runs.{Call, calls_of, Each, is_in, Among, payload_of, payloads}
use Rattle.claims_isolation.specs.Isolation.{SameLists, others, in_turn}

-- ## What holds of each call

module _ (P : Call → Type 0) where
  pub each_of : (c : ℕ) (xs : List Call) → Each P xs → Each P (calls_of c xs)
  unfolding Each calls_of
  each_of c [] e = tt
  each_of c (x ∷ xs) e = go (eqb c x.channel) (each_of c xs e.1)
    where
      go : (b : Bool) → Each P (calls_of c xs) → Each P (cond b (x ∷ calls_of c xs) (calls_of c xs))
      go true rest = (e.0, rest)
      go false rest = rest

  each_from : (xs : List Call) → ((c : ℕ) → Each P (calls_of c xs)) → Each P xs
  unfolding Each calls_of
  each_from [] e = tt
  each_from (x ∷ xs) e = (first.0, each_from xs (λ c. go c (eqb c x.channel) (e c)))
    where
      first : Each P (x ∷ calls_of x.channel xs)
      first = rw (eq-eqb x.channel x.channel refl) at (e x.channel)

      go : (c : ℕ) (b : Bool) → Each P (cond b (x ∷ calls_of c xs) (calls_of c xs)) → Each P (calls_of c xs)
      go c true f = f.1
      go c false f = f

  pub each_same : (xs ys : List Call) → SameLists xs ys → Each P xs → Each P ys
  each_same xs ys same e = each_from ys (λ c. rw (same c) at (each_of c xs e))

-- ## The payloads

-- without the first call on channel c
unfoldable later : ℕ → List Call → List Call
later c [] = []
later c (x ∷ xs) = cond (eqb c x.channel) xs (x ∷ later c xs)

later_others : (c d : ℕ) (xs : List Call) → (d ≡ c → ⊥) → calls_of d (later c xs) ≡ calls_of d xs
unfolding later calls_of
later_others c d [] n = refl
later_others c d (x ∷ xs) n = go (eqb c x.channel) refl (later_others c d xs n)
  where
    go : (b : Bool) → eqb c x.channel ≡ b → calls_of d (later c xs) ≡ calls_of d xs → calls_of d (cond b xs (x ∷ later c xs)) ≡ cond (eqb d x.channel) (x ∷ calls_of d xs) (calls_of d xs)
    go true q ih = rw (ne_eqb d x.channel (λ e. n (e ∙ sym (eqb-true c x.channel q)))) refl
    go false q ih = rw ih refl

-- where there is one
record Begins (c : ℕ) (y : Call) (ys xs : List Call) : Type 0 where
  rest : calls_of c (later c xs) ≡ ys
  bits : payloads xs ≡ payload_of y.act + payloads (later c xs)

begins : (c : ℕ) (y : Call) (ys xs : List Call) → calls_of c xs ≡ y ∷ ys → Begins c y ys xs
unfolding later calls_of payloads
begins c y ys [] e = let w : ◌≡◌ {A = ℕ} 0 1 = cc in absurd (omega arith)
begins c y ys (x ∷ xs) e = go (eqb c x.channel) refl e (begins c y ys xs)
  where
    go : (b : Bool) → eqb c x.channel ≡ b → cond b (x ∷ calls_of c xs) (calls_of c xs) ≡ y ∷ ys → (calls_of c xs ≡ y ∷ ys → Begins c y ys xs)
        → Begins c y ys (x ∷ xs)
    go true q f ih =
        let same : x ≡ y = cc in
        let more : calls_of c xs ≡ ys = cc in
        record { rest = rw q more; bits = rw (q, same) refl }
    go false q f ih =
        let b = ih f in
        record { rest = rw (q, q) b.rest; bits = rw q (omega (arith, b.bits)) }

nothing : (ys : List Call) → ((c : ℕ) → calls_of c ys ≡ []) → ys ≡ []
unfolding calls_of
nothing [] e = refl
nothing (y ∷ ys) e =
    let z : y ∷ calls_of y.channel ys ≡ [] = rw (eq-eqb y.channel y.channel refl) at (e y.channel) in
    let w : ◌≡◌ {A = ℕ} 0 1 = cc in
    absurd (omega arith)

pub payloads_same : (xs ys : List Call) → SameLists xs ys → payloads xs ≡ payloads ys
unfolding payloads calls_of
payloads_same [] ys same = rw (nothing ys (λ c. sym (same c))) refl
payloads_same (x ∷ xs) ys same = omega (arith, first.bits, payloads_same xs (later x.channel ys) (λ d. go d (eqb d x.channel) refl))
  where
    first : Begins x.channel x (calls_of x.channel xs) ys
    first = begins x.channel x (calls_of x.channel xs) ys (sym (rw (eq-eqb x.channel x.channel refl) at (same x.channel)))

    go : (d : ℕ) (b : Bool) → eqb d x.channel ≡ b → calls_of d xs ≡ calls_of d (later x.channel ys)
    go d true q = rw (eqb-true d x.channel q) (sym first.rest)
    go d false q = rw q at (same d) ∙ sym (later_others x.channel d ys (eqb-false d x.channel q))

-- ## Channel after channel

calls_append : (d : ℕ) (xs ys : List Call) → calls_of d (xs ++ ys) ≡ calls_of d xs ++ calls_of d ys
unfolding calls_of
calls_append d [] ys = refl
calls_append d (x ∷ xs) ys = go (eqb d x.channel) (calls_append d xs ys)
  where
    go : (b : Bool) → calls_of d (xs ++ ys) ≡ calls_of d xs ++ calls_of d ys
        → cond b (x ∷ calls_of d (xs ++ ys)) (calls_of d (xs ++ ys)) ≡ cond b (x ∷ calls_of d xs) (calls_of d xs) ++ calls_of d ys
    go true ih = rw ih refl
    go false ih = ih

none_of : (c d : ℕ) (xs : List Call) → (d ≡ c → ⊥) → calls_of d (calls_of c xs) ≡ []
unfolding calls_of
none_of c d [] n = refl
none_of c d (x ∷ xs) n = go (eqb c x.channel) refl (none_of c d xs n)
  where
    go : (b : Bool) → eqb c x.channel ≡ b → calls_of d (calls_of c xs) ≡ [] → calls_of d (cond b (x ∷ calls_of c xs) (calls_of c xs)) ≡ []
    go true q ih = rw (ne_eqb d x.channel (λ e. n (e ∙ sym (eqb-true c x.channel q)))) ih
    go false q ih = ih

-- a channel's calls and the others' are all
parts : (c d : ℕ) (xs : List Call) → calls_of d (calls_of c xs) ++ calls_of d (others c xs) ≡ calls_of d xs
unfolding calls_of others
parts c d [] = refl
parts c d (x ∷ xs) = go (eqb c x.channel) refl (eqb d x.channel) refl (parts c d xs)
  where
    go : (b : Bool) → eqb c x.channel ≡ b → (t : Bool) → eqb d x.channel ≡ t → calls_of d (calls_of c xs) ++ calls_of d (others c xs) ≡ calls_of d xs
        → calls_of d (cond b (x ∷ calls_of c xs) (calls_of c xs)) ++ calls_of d (cond b (others c xs) (x ∷ others c xs)) ≡ cond t (x ∷ calls_of d xs) (calls_of d xs)
    go true q true w ih = rw w (ap (λ (l : List Call). x ∷ l) ih)
    go true q false w ih = rw w ih
    go false q true w ih =
        let no = none_of c d xs (λ e. eqb-false c x.channel q (sym e ∙ eqb-true d x.channel w)) in
        rw (w, no) (ap (λ (l : List Call). x ∷ l) (rw no at ih))
    go false q false w ih = rw w ih

among_others : (c : ℕ) (cs : List ℕ) (xs : List Call) → Each (Among (c ∷ cs)) xs → Each (Among cs) (others c xs)
unfolding Each others is_in
among_others c cs [] e = tt
among_others c cs (x ∷ xs) e = go (eqb c x.channel) refl (among_others c cs xs e.1)
  where
    go : (b : Bool) → eqb c x.channel ≡ b → Each (Among cs) (others c xs) → Each (Among cs) (cond b (others c xs) (x ∷ others c xs))
    go true q ih = ih
    go false q ih = (rw (ne_eqb x.channel c (λ f. eqb-false c x.channel q (sym f))) at e.0, ih)

pub in_turn_same : (cs : List ℕ) (xs : List Call) → Each (Among cs) xs → SameLists xs (in_turn cs xs)
unfolding in_turn Each is_in
in_turn_same [] [] e d = refl
in_turn_same [] (x ∷ xs) e d = let z : false ≡ true = e.0 in absurd (false≢true z)
in_turn_same (c ∷ cs) xs e d =
    sym
    (calls_append d (calls_of c xs) (in_turn cs (others c xs))
    ∙ ap (λ (l : List Call). calls_of d (calls_of c xs) ++ l) (sym (in_turn_same cs (others c xs) (among_others c cs xs e) d))
    ∙ parts c d xs)
