-- Every call leaves sound memory sound, holding what the call's step says.
use Prim.Native.Nat.{ℕ, ◌+◌, ◌≤◌, ◌<◌}
use mathlib.Core.Path.{◌≡◌, refl, ◌∙◌}
use mathlib.Core.Bool.{Bool, true, false}
use mathlib.Core.List.{List}
use native.Mathlib.Omega.{arith}
use lib.ListN.{length}
use Rattle.tables.specs.Tables.{Found, none, found, get, without}
use Rattle.words.specs.Range.{InRange}
use Rattle.bunch_places.specs.Bytes.{bytes_of}
use Rattle.bunch_judging.specs.Held.{Held, Fragment}
use Rattle.bunch_judging.specs.Messages.{held_after, bits_held}
use Rattle.bunch_held.specs.declared.Accumulator.{Accumulator}
use Rattle.bunch_held.specs.Memory.{HeldMemory, State, total}
use Rattle.bunch_held.specs.Sound.{fit, memory_sound}
use Rattle.bunch_held.specs.State.{Good, Kept}
use Rattle.bunch_held.specs.Steps.{Act, adding, holding, local, state_after}
use Rattle.bunch_held.specs.Calls.{limits_of, held_by, BunchReply, called}
use Rattle.bunch_held.proofs.Soundness.{stands, fits}
use Rattle.bunch_held.proofs.Holding as H
use Rattle.bunch_held.proofs.Laying.{state_back, laid_sound}
use Rattle.bunch_held.proofs.Keeping.{good_held, without_kept, put_kept}
use Rattle.claims_isolation.specs.Runs.{ActInRange}
use Rattle.claims_isolation.proofs.Growing.{GoodFound, good_after}
use Rattle.claims_isolation.proofs.Weighing.{met, total_parts, finds_place, within_buffered}
use Rattle.claims_isolation.proofs.Cases.{local_case}

-- ## The state stays within the limits

module _ (a : Accumulator) (s : State) (k : Kept a s) (c : ℕ) where
  -- what the channel may hold
  abbrev Allowed : Found Held → Type 0
  Allowed none = Unit {0}
  Allowed (found h) = Good h × (get c s ≡ none → length s < a.max_active) × (total (without c s) + h.message.bits ≤ a.max_buffered_bits)

  holding_kept : (x : Found Held) → Allowed x → Kept a (holding c x s)
  holding_kept none w = without_kept a s k c
  holding_kept (found h) w = put_kept a s k c h w.0 w.1 w.2

  good_there : (x : Found Held) → get c s ≡ x → GoodFound x
  good_there none e = tt
  good_there (found h) e = good_held c s e k.good

  same_allowed : Allowed (get c s)
  same_allowed = go (get c s) refl
    where
      go : (x : Found Held) → get c s ≡ x → Allowed x
      go none e = tt
      go (found h) e =
          (good_held c s e k.good, λ n. let z : ◌≡◌ {A = ℕ} 0 1 = cc in absurd (omega arith), omega (arith, rw e at (total_parts (limits_of a) s c k.ordered), k.total_within))

  grown_allowed : (f : Fragment) → InRange f.header → bytes_of f.bits ≤ length f.payload → Allowed (held_after (met (limits_of a) s c f) (get c s) f)
  grown_allowed f r enough =
      go (held_after (met (limits_of a) s c f) (get c s) f) refl (good_after _ _ (get c s) f r enough (good_there (get c s) refl)) (within_buffered (limits_of a) s c f k.ordered k.total_within)
    where
      go : (x : Found Held) → held_after (met (limits_of a) s c f) (get c s) f ≡ x → GoodFound x → total (without c s) + bits_held x ≤ a.max_buffered_bits → Allowed x
      go none e g w = tt
      go (found h) e g w = (g, finds_place (limits_of a) s c f e, w)

  pub after_kept : (act : Act) (output : List ℕ) → ActInRange act → Kept a (state_after (limits_of a) s c act output)
  unfolding state_after
  after_kept act output ranged =
      holding_kept (local (limits_of a) s c act output).held
      (local_case (λ x. Allowed x.held) output (limits_of a) s c act (λ e. same_allowed) same_allowed (λ h e. tt) (λ f e enough. grown_allowed f (in_range f e) enough))
    where
      in_range : (f : Fragment) → act ≡ adding f → InRange f.header
      in_range f e = rw e at ranged

-- ## The lent memory

module _ (a : Accumulator) (m : HeldMemory) (c : ℕ) (act : Act) (output : List ℕ) where
  abbrev x : BunchReply
  x = called a m c act output

  module _ (s : memory_sound a m ≡ true) where
    abbrev next : State
    next = state_after (limits_of a) (held_by a m) c act output

    next_kept : ActInRange act → Kept a next
    next_kept e = after_kept a (held_by a m) (H.kept a m (stands a m s)) c act output e

    -- the state that the memory holds afterwards is the step's
    pub holds_next : ActInRange act → held_by x.accumulator x.memory ≡ next
    unfolding called
    holds_next e = rw s (state_back next m (next_kept e).good)

  module _ (e : ActInRange act) where
    -- memory is sound afterwards where it was before, whatever the answer,
    pub lasts : memory_sound x.accumulator x.memory ≡ memory_sound a m
    unfolding called
    lasts = go (memory_sound a m) refl
      where
        go : (b : Bool) → memory_sound a m ≡ b → memory_sound x.accumulator x.memory ≡ b
        go true s = rw s (laid_sound (next s) m a (stands a m s).opens (next_kept s e))
        go false s = rw s s

    -- and fits as it did
    pub still_fits : fit x.accumulator.max_active x.accumulator.max_buffered_bits x.memory ≡ fit a.max_active a.max_buffered_bits m
    unfolding called
    still_fits = go (memory_sound a m) refl
      where
        go : (b : Bool) → memory_sound a m ≡ b → fit x.accumulator.max_active x.accumulator.max_buffered_bits x.memory ≡ fit a.max_active a.max_buffered_bits m
        go true s =
            rw (fits a m (stands a m s).opens)
            (fits x.accumulator x.memory (stands x.accumulator x.memory (lasts ∙ s)).opens)
        go false s = rw s refl
