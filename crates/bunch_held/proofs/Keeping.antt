-- A message put in or taken out: the bits and the bytes of all, that all stay good, and that the state stays within the limits.
use Prim.Native.Nat.{ℕ, ◌+◌, ◌≤◌, ◌<◌}
use mathlib.Core.Path.{◌≡◌, refl, ap, ◌∙◌}
use mathlib.Core.Bool.{Bool, true, false, cond}
use mathlib.Core.List.{[], ◌∷◌}
use native.Mathlib.Omega.{arith}
use lib.Dec.{eqb, ltb}
use lib.ListN.{length, length-append}
use borrow.Author.Tests.{eqb-true}
use Rattle.tables.specs.Columns.{ascending}
use Rattle.tables.specs.Tables.{none, found, get, put, without, added_channel, channels, values}
use Rattle.tables.proofs.Ascending.{ascending_rest}
use Rattle.tables.proofs.Puts.{without_past}
use Rattle.tables.proofs.Kept as T
use Rattle.bunch_places.specs.Packed.{joined}
use Rattle.bunch_judging.specs.Held.{Held}
use Rattle.bunch_held.specs.declared.Accumulator.{Accumulator}
use Rattle.bunch_held.specs.Memory.{State, bytes_all, total}
use Rattle.bunch_held.specs.State.{Good, AllGood, Kept}

-- ## Sums over the messages

module _ (f : Held → ℕ) where
  unfoldable weight : State → ℕ
  weight [] = 0
  weight (e ∷ s) = f e.1 + weight s

  weight_added : (c : ℕ) (h : Held) (s : State) → weight (added_channel c h s) ≡ weight s + f h
  unfolding added_channel weight
  weight_added c h [] = omega arith
  weight_added c h (e ∷ s) = go (ltb e.0 c) (weight_added c h s)
    where
      go : (b : Bool) → weight (added_channel c h s) ≡ weight s + f h → weight (cond b (e ∷ added_channel c h s) ((c, h) ∷ (e ∷ s))) ≡ f e.1 + weight s + f h
      go true ih = omega arith
      go false ih = omega arith

  weight_put : (c : ℕ) (h : Held) (s : State) → weight (put c h s) ≡ weight (without c s) + f h
  unfolding put
  weight_put c h s = weight_added c h (without c s)

  weight_less : (c : ℕ) (s : State) → weight (without c s) ≤ weight s
  unfolding without weight
  weight_less c [] = omega arith
  weight_less c (e ∷ s) = go (eqb c e.0) (weight_less c s)
    where
      go : (b : Bool) → weight (without c s) ≤ weight s → weight (cond b (without c s) (e ∷ without c s)) ≤ f e.1 + weight s
      go true ih = omega arith
      go false ih = omega arith

  weight_there : (c : ℕ) {h : Held} (s : State) → get c s ≡ found h → ascending (channels s) ≡ true → weight (without c s) + f h ≡ weight s
  unfolding get without ascending weight
  weight_there c [] e a = let z : ◌≡◌ {A = ℕ} 0 1 = cc in absurd (omega arith)
  weight_there c {h} (x ∷ s) e a = go (eqb c x.0) refl e (λ g. weight_there c s g (ascending_rest x.0 (channels s) a))
    where
      go : (b : Bool) → eqb c x.0 ≡ b → cond b (found x.1) (get c s) ≡ found h → (get c s ≡ found h → weight (without c s) + f h ≡ weight s)
          → weight (cond b (without c s) (x ∷ without c s)) + f h ≡ f x.1 + weight s
      go true q g ih =
          let same : x.1 ≡ h = cc in
          rw (without_past c s (rw (eqb-true c x.0 q) a), ← same) (omega arith)
      go false q g ih = omega (arith, ih g)

abbrev bits : Held → ℕ
bits h = h.message.bits

total_weight : (s : State) → total s ≡ weight bits s
unfolding total weight
total_weight [] = refl
total_weight (e ∷ s) = ap (λ (n : ℕ). bits e.1 + n) (total_weight s)

abbrev size : Held → ℕ
size h = length h.message.bytes

bytes_weight : (s : State) → length (bytes_all s) ≡ weight size s
unfolding joined weight
bytes_weight [] = refl
bytes_weight (e ∷ s) = length-append e.1.message.bytes (bytes_all s) ∙ ap (λ (n : ℕ). size e.1 + n) (bytes_weight s)

module _ (c : ℕ) (s : State) where
  pub total_less : total (without c s) ≤ total s
  total_less = omega (arith, total_weight (without c s), total_weight s, weight_less bits c s)

  pub total_put : (h : Held) → total (put c h s) ≡ total (without c s) + h.message.bits
  total_put h = total_weight (put c h s) ∙ weight_put bits c h s ∙ rw (total_weight (without c s)) refl

  pub bytes_put : (h : Held) → length (bytes_all (put c h s)) ≡ length (bytes_all (without c s)) + length h.message.bytes
  bytes_put h = bytes_weight (put c h s) ∙ weight_put size c h s ∙ rw (bytes_weight (without c s)) refl

  module _ {h : Held} (there : get c s ≡ found h) (ascends : ascending (channels s) ≡ true) where
    pub total_there : total (without c s) + h.message.bits ≡ total s
    total_there = rw (total_weight (without c s), total_weight s) (weight_there bits c s there ascends)

    pub bytes_there : length (bytes_all (without c s)) + length h.message.bytes ≡ length (bytes_all s)
    bytes_there = rw (bytes_weight (without c s), bytes_weight s) (weight_there size c s there ascends)

-- ## All stay good

pub good_held : (c : ℕ) {h : Held} (s : State) → get c s ≡ found h → AllGood (values s) → Good h
unfolding get AllGood
good_held c [] e g = let z : ◌≡◌ {A = ℕ} 0 1 = cc in absurd (omega arith)
good_held c {h} (x ∷ s) e g = go (eqb c x.0) e (λ f. good_held c s f g.1)
  where
    go : (b : Bool) → cond b (found x.1) (get c s) ≡ found h → (get c s ≡ found h → Good h) → Good h
    go true f ih = let same : x.1 ≡ h = cc in rw (← same) g.0
    go false f ih = ih f

good_without : (c : ℕ) (s : State) → AllGood (values s) → AllGood (values (without c s))
unfolding without AllGood
good_without c [] g = g
good_without c (e ∷ s) g = go (eqb c e.0) (good_without c s g.1)
  where
    go : (b : Bool) → AllGood (values (without c s)) → AllGood (values (cond b (without c s) (e ∷ without c s)))
    go true ih = ih
    go false ih = (g.0, ih)

good_added : (c : ℕ) {h : Held} (s : State) → Good h → AllGood (values s) → AllGood (values (added_channel c h s))
unfolding added_channel AllGood
good_added c [] k g = (k, tt)
good_added c {h} (e ∷ s) k g = go (ltb e.0 c) (good_added c s k g.1)
  where
    go : (b : Bool) → AllGood (values (added_channel c h s)) → AllGood (values (cond b (e ∷ added_channel c h s) ((c, h) ∷ (e ∷ s))))
    go true ih = (g.0, ih)
    go false ih = (k, g)

-- ## Within the limits

module _ (a : Accumulator) (s : State) (k : Kept a s) (c : ℕ) where
  pub without_kept : Kept a (without c s)
  without_kept =
      let t = T.without_kept s (record { within = k.within; ordered = k.ordered }) c in
      record { ordered = t.ordered; good = good_without c s k.good; within = t.within; total_within = omega (arith, total_less c s, k.total_within) }

  -- a new channel needs a place, and the message its bits
  pub put_kept : (h : Held) → Good h → (get c s ≡ none → length s < a.max_active) → total (without c s) + h.message.bits ≤ a.max_buffered_bits → Kept a (put c h s)
  unfolding put
  put_kept h g room few =
      let t = T.put_kept s (record { within = k.within; ordered = k.ordered }) c h room in
      record { ordered = t.ordered; good = good_added c (without c s) g (good_without c s k.good); within = t.within; total_within = omega (arith, total_put c s h, few) }
