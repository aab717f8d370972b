-- What a fragment leaves its channel holding is within the limits: a new message finds a place, and bits are appended only below the
-- buffered limit.
use Prim.Native.Nat.{ℕ, ◌+◌, ◌≤◌, ◌<◌}
use mathlib.Core.Path.{◌≡◌, refl}
use mathlib.Core.Bool.{Bool, true, false, ◌||◌, cond}
use native.Mathlib.Omega.{arith}
use lib.Dec.{eqb, leb}
use lib.ListN.{length}
use borrow.Author.Tests.{eqb-true, leb-false, ltb-false}
use Rattle.types.specs.declared.PartialSequenceKind.{PartialSequenceKind}
use Rattle.types.specs.declared.RawBunchHeader.{RawBunchHeader}
use Rattle.tables.specs.Columns.{ascending}
use Rattle.tables.specs.Tables.{Found, none, found, get, without, channels}
use Rattle.bunch_judging.specs.declared.Fate.{Fate}
use Rattle.bunch_judging.specs.Held.{Held, Fragment}
use Rattle.bunch_judging.specs.Fates.{follows, overlaps, weighed, admitted, continued, fate}
use Rattle.bunch_judging.specs.Headers.{after_test}
use Rattle.bunch_judging.specs.Messages.{joined_by, held_after, bits_held}
use Rattle.bunch_judging.specs.Effects.{effect_of}
use Rattle.bunch_judging.proofs.Memory.{effect_on}
use Rattle.bunch_judging.proofs.Displacing.{join_bits}
use Rattle.bunch_held.specs.Memory.{State, total}
use Rattle.bunch_held.specs.Steps.{Limits, adding, full, kept, reached, over}
use Rattle.bunch_held.proofs.Keeping.{total_less, total_there}

-- ## One channel

-- of some bits that pass the limit, no fate lets the message stay
module _ (initial zero : Bool) where
  abbrev Goes : Fate → Type 0
  Goes x = (effect_of x initial zero).stays ≡ false

  passed_goes : (odd final error : Bool) → Goes (weighed odd true final error)
  unfolding weighed effect_of
  passed_goes true final error = refl
  passed_goes false final error = refl

  admitted_goes : (final error : Bool) (bits : ℕ) → eqb bits 0 ≡ false → Goes (admitted true final error bits)
  unfolding admitted
  admitted_goes final error bits e = rw e (passed_goes _ final error)

  continued_goes : (m : Found Held) (h : RawBunchHeader) (bits : ℕ) → eqb bits 0 ≡ false → Goes (continued true m h bits)
  unfolding continued effect_of
  continued_goes none h bits e = refl
  continued_goes (found n) h bits e = go n.finished (follows n.sequence n.reliable h)
    where
      go : (done follow : Bool)
          → Goes (cond done (Fate.Breaks PartialSequenceKind.MissingInitial) (cond follow (admitted true h.b_partial_final h.has_partial_error bits) (Fate.Breaks PartialSequenceKind.MismatchedContinuation)))
      go true follow = refl
      go false true = admitted_goes h.b_partial_final h.has_partial_error bits e
      go false false = refl

  fate_goes : (full : Bool) (m : Found Held) (h : RawBunchHeader) (bits : ℕ) → eqb bits 0 ≡ false → Goes (fate full true m h bits)
  unfolding fate effect_of
  fate_goes full m h bits e = go h.b_partial_initial full
    where
      go : (i t : Bool)
          → Goes (cond i (cond t Fate.TurnedAway (admitted true h.b_partial_final (h.has_partial_error || overlaps m h.b_partial_initial) bits)) (continued true m h bits))
      go true true = refl
      go true false = admitted_goes h.b_partial_final (h.has_partial_error || overlaps m h.b_partial_initial) bits e
      go false t = continued_goes m h bits e

module _ (m : Found Held) (f : Fragment) where
  abbrev initial : Bool
  initial = f.header.b_partial_initial

  -- the other channels' bits with this one's
  weighs : (x : Fate) (others limit : ℕ) → others + bits_held m ≤ limit → ((effect_on x f).stays ≡ true → others + (bits_held (joined_by initial m) + f.bits) ≤ limit)
      → others + bits_held (held_after x m f) ≤ limit
  unfolding held_after effect_of
  weighs Fate.TurnedAway others limit h more = h
  weighs (Fate.Breaks k) others limit h more = omega arith
  weighs (Fate.Fails c) others limit h more = omega arith
  weighs Fate.Joins others limit h more = rw (join_bits (joined_by initial m) (after_test m f.header)) (more refl)
  weighs Fate.Finishes others limit h more = rw (join_bits (joined_by initial m) (after_test m f.header)) (more refl)
  weighs Fate.Falls others limit h more = omega arith

  joined_less : (b : Bool) → bits_held (joined_by b m) ≤ bits_held m
  joined_less true = omega arith
  joined_less false = omega arith

  -- what finds no place is not held
  turned_away : (over : Bool) → m ≡ none → held_after (fate true over m f.header f.bits) m f ≡ none
  unfolding held_after fate continued
  turned_away over e = rw e (go initial)
    where
      go : (i : Bool)
          → held_after (cond i Fate.TurnedAway (continued over none f.header f.bits)) none f ≡ none
      go true = refl
      go false = refl

kept_is : (b : Bool) (m : Found Held) → kept b m ≡ bits_held (joined_by b m)
kept_is true m = refl
kept_is false none = refl
kept_is false (found h) = refl

-- ## Among all channels

module _ (l : Limits) (s : State) (c : ℕ) where
  -- the bits of all, as the channel and the others
  pub total_parts : ascending (channels s) ≡ true → total (without c s) + bits_held (get c s) ≤ total s
  total_parts a = go (get c s) refl
    where
      go : (x : Found Held) → get c s ≡ x → total (without c s) + bits_held x ≤ total s
      go none e = omega (arith, total_less c s)
      go (found h) e = omega (arith, total_there c s e a)

  module _ (f : Fragment) where
    abbrev pub met : Fate
    met = fate (full l s c) (over l s c (adding f)) (get c s) f.header f.bits

    -- "active limit"
    pub finds_place : {h : Held} → held_after met (get c s) f ≡ found h → get c s ≡ none → length s < l.active
    unfolding full
    finds_place {h} e n = go (leb l.active (length s)) refl
      where
        go : (b : Bool) → leb l.active (length s) ≡ b → length s < l.active
        go false q = leb-false l.active (length s) q
        go true q =
            let filled : full l s c ≡ true = rw (n, q) refl in
            let gone : held_after met (get c s) f ≡ none = rw filled (turned_away (get c s) f (over l s c (adding f)) n) in
            let z : ◌≡◌ {A = ℕ} 0 1 = cc in
            absurd (omega arith)

    -- "buffered limit"
    pub within_buffered : ascending (channels s) ≡ true → total s ≤ l.buffered → total (without c s) + bits_held (held_after met (get c s) f) ≤ l.buffered
    unfolding over
    within_buffered a h = weighs (get c s) f met (total (without c s)) l.buffered before (light (over l s c (adding f)) refl (eqb f.bits 0) refl)
      where
        before : total (without c s) + bits_held (get c s) ≤ l.buffered
        before = omega (arith, total_parts a)

        light : (b : Bool) → over l s c (adding f) ≡ b → (zero : Bool) → eqb f.bits 0 ≡ zero → (effect_on met f).stays ≡ true
            → total (without c s) + (bits_held (joined_by f.header.b_partial_initial (get c s)) + f.bits) ≤ l.buffered
        light false o zero z st = rw (kept_is f.header.b_partial_initial (get c s)) at (ltb-false l.buffered (total (without c s) + reached (get c s) (adding f)) o)
        light true o true z st = omega (arith, joined_less (get c s) f f.header.b_partial_initial, eqb-true f.bits 0 z, before)
        light true o false z st =
            let gone : (effect_on met f).stays ≡ false = rw o (fate_goes f.header.b_partial_initial (eqb f.bits 0) (full l s c) (get c s) f.header f.bits z) in
            let w : ◌≡◌ {A = ℕ} 0 1 = cc in
            absurd (omega arith)
