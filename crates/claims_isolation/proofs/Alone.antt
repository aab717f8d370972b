-- While neither limit binds, what a call says and leaves held is of its channel's own message alone. The weight lies in the sums: a
-- call adds at most its payload to the bits held.
use Prim.Native.Nat.{ℕ, ◌+◌, ◌≤◌, ◌<◌}
use mathlib.Core.Path.{◌≡◌, refl, ap}
use mathlib.Core.Bool.{Bool, true, false, ◌&&◌}
use mathlib.Core.List.{List, [], ◌∷◌}
use native.Mathlib.Omega.{arith}
use lib.Dec.{leb}
use lib.ListN.{length}
use borrow.Author.Tests.{lt-leb, le-ltb}
use Rattle.tables.specs.Columns.{ascending}
use Rattle.tables.specs.Tables.{Found, none, found, get, without, channels}
use Rattle.bunch_judging.specs.declared.Fate.{Fate}
use Rattle.bunch_judging.specs.Held.{Held, Fragment}
use Rattle.bunch_judging.specs.Headers.{after_test}
use Rattle.bunch_judging.specs.Messages.{joined_by, held_after, bits_held}
use Rattle.bunch_judging.proofs.Displacing.{join_bits}
use Rattle.bunch_held.specs.Memory.{State, total}
use Rattle.bunch_held.specs.Steps.{Act, adding, taking, retiring, Local, Limits, is_none, kept, reached, locally, full, over, holding, local, state_after}
use Rattle.bunch_held.proofs.Keeping.{total_put}
use Rattle.claims_isolation.proofs.Weighing.{met, total_parts}
use Rattle.claims_isolation.proofs.Cases.{local_case}
use Rattle.claims_isolation.specs.Runs.{Call, Said, payload_of}

-- ## A channel by itself

abbrev pub by_itself : Found Held → Call → Local
by_itself h x = locally false false h x.act x.output

abbrev pub saying : ℕ → Local → Said
saying c y = record { channel = c; answer = y.answer; output = y.output }

-- what a channel's calls say, and what it holds after them
unfoldable pub alone : Found Held → List Call → List Said
alone h [] = []
alone h (x ∷ xs) = let y = by_itself h x in saying x.channel y ∷ alone y.held xs

unfoldable pub held_alone : Found Held → List Call → Found Held
held_alone h [] = h
held_alone h (x ∷ xs) = held_alone (by_itself h x).held xs

-- ## The bits

joined_less : (b : Bool) (m : Found Held) → bits_held (joined_by b m) ≤ bits_held m
joined_less true m = omega arith
joined_less false m = omega arith

judged_grows : (m : Found Held) (f : Fragment) (x : Fate) → bits_held (held_after x m f) ≤ bits_held m + f.bits
unfolding held_after
judged_grows m f Fate.TurnedAway = omega arith
judged_grows m f (Fate.Breaks k) = omega arith
judged_grows m f (Fate.Fails c) = omega arith
judged_grows m f Fate.Joins =
    omega (arith, join_bits (joined_by f.header.b_partial_initial m) (after_test m f.header), joined_less f.header.b_partial_initial m)
judged_grows m f Fate.Finishes =
    omega (arith, join_bits (joined_by f.header.b_partial_initial m) (after_test m f.header), joined_less f.header.b_partial_initial m)
judged_grows m f Fate.Falls = omega arith

kept_less : (b : Bool) (m : Found Held) → kept b m ≤ bits_held m
kept_less true m = omega arith
kept_less false none = omega arith
kept_less false (found h) = omega arith

reached_less : (m : Found Held) (act : Act) → reached m act ≤ bits_held m + payload_of act
reached_less m (adding f) = omega (arith, kept_less f.header.b_partial_initial m)
reached_less m taking = omega arith
reached_less m retiring = omega arith

module _ (l : Limits) (s : State) (c : ℕ) (act : Act) (output : List ℕ) where
  step_grows : bits_held (local l s c act output).held ≤ bits_held (get c s) + payload_of act
  step_grows =
      local_case (λ (x : Local). bits_held x.held ≤ bits_held (get c s) + payload_of act) output l s c act (λ e. omega arith) (omega arith) (λ h e. omega arith)
      (λ f e h. omega (arith, judged_grows (get c s) f (met l s c f), ap payload_of e))

  total_holding : (x : Found Held) → total (holding c x s) ≡ total (without c s) + bits_held x
  total_holding none = omega arith
  total_holding (found h) = total_put c s h

  pub total_after : ascending (channels s) ≡ true → total (state_after l s c act output) ≤ total s + payload_of act
  unfolding state_after
  total_after a = omega (arith, total_holding (local l s c act output).held, step_grows, total_parts l s c a)

  -- ## A call where neither limit binds

  module _ (ordered : ascending (channels s) ≡ true) (place : get c s ≡ none → length s < l.active) (room : total s + payload_of act ≤ l.buffered) where
    not_full : full l s c ≡ false
    unfolding full
    not_full = go (get c s) refl
      where
        go : (x : Found Held) → get c s ≡ x → (is_none x && leb l.active (length s)) ≡ false
        go none e = lt-leb l.active (length s) (place e)
        go (found h) e = refl

    not_over : over l s c act ≡ false
    unfolding over
    not_over =
        le-ltb l.buffered (total (without c s) + reached (get c s) act) (omega (arith, total_parts l s c ordered, reached_less (get c s) act, room))

    pub locality : local l s c act output ≡ locally false false (get c s) act output
    unfolding local
    locality = rw (not_full, not_over) refl
