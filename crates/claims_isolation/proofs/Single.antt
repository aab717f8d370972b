-- One channel's message among the others: what the channel and any other hold after it is put or taken away.
use Prim.Native.Nat.{ℕ}
use mathlib.Core.Path.{◌≡◌, refl, sym, ap, ◌∙◌}
use mathlib.Core.Bool.{Bool, true, false, cond}
use mathlib.Core.List.{[], ◌∷◌}
use native.Mathlib.Omega.{arith}
use lib.Dec.{eqb, ltb}
use borrow.Author.Tests.{eqb-true, ltb-true, ltb-false}
use Rattle.tables.specs.Columns.{ascending}
use Rattle.tables.specs.Tables.{Found, none, found, get, put, channels}
use Rattle.tables.proofs.Ascending.{above_less, ascending_rest}
use Rattle.tables.proofs.Puts.{without_none, get_past, put_over, put_on, get_without_same, get_without_other, get_put_same, get_put_other}
use Rattle.bunch_judging.specs.Held.{Held}
use Rattle.bunch_held.specs.Memory.{State}
use Rattle.bunch_held.specs.Steps.{holding}

module _ (c : ℕ) where
  put_there : {h : Held} (s : State) → get c s ≡ found h → ascending (channels s) ≡ true → put c h s ≡ s
  unfolding get ascending
  put_there [] e a = let z : ◌≡◌ {A = ℕ} 0 1 = cc in absurd (omega arith)
  put_there {h} (x ∷ s) e a = go (eqb c x.0) refl e (ltb x.0 c) refl (λ g. put_there s g (ascending_rest x.0 (channels s) a))
    where
      go : (b : Bool) → eqb c x.0 ≡ b → cond b (found x.1) (get c s) ≡ found h → (t : Bool) → ltb x.0 c ≡ t → (get c s ≡ found h → put c h s ≡ s)
          → put c h (x ∷ s) ≡ x ∷ s
      go true q g t w ih = let same : x.1 ≡ h = cc in put_on c h x s (sym (eqb-true c x.0 q)) a ∙ rw (← same) refl
      go false q g true w ih = put_over c h x s (ltb-true x.0 c w) ∙ ap (λ (t : State). x ∷ t) (ih g)
      go false q g false w ih =
          let n : get c s ≡ none = get_past c s (above_less c x.0 (channels s) (ltb-false x.0 c w) a) in
          let z : ◌≡◌ {A = ℕ} 0 1 = cc in
          absurd (omega arith)

  -- what the channel holds, put where it is
  pub holding_same : (s : State) → ascending (channels s) ≡ true → holding c (get c s) s ≡ s
  holding_same s a = go (get c s) refl
    where
      go : (x : Found Held) → get c s ≡ x → holding c x s ≡ s
      go none e = without_none c s e
      go (found h) e = put_there s e a

  pub get_holding : (x : Found Held) (s : State) → get c (holding c x s) ≡ x
  get_holding none s = get_without_same c s
  get_holding (found h) s = get_put_same c h s

  pub get_other : (d : ℕ) (x : Found Held) (s : State) → (d ≡ c → ⊥) → get d (holding c x s) ≡ get d s
  get_other d none s n = get_without_other d c s n
  get_other d (found h) s n = get_put_other d c h s n
