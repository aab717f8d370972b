-- A fragment past its payload's tests: what is shown and left, whatever the channel holds.
use Prim.Native.Nat.{ℕ, ◌*◌, ◌≤◌, ◌<◌}
use mathlib.Core.Path.{◌≡◌, refl}
use mathlib.Core.Bool.{Bool, true, false, not, ◌||◌, cond}
use mathlib.Core.List.{List, [], ◌∷◌, ◌++◌, map}
use native.Mathlib.Omega.{arith}
use lib.Dec.{eqb}
use lib.ListN.{length, take}
use borrow.Author.Tests.{lt-ltb, le-ltb}
use Rattle.bitio_window.specs.Refusals.{payload_too_long, payload_short, output_short}
use Rattle.tables.specs.Tables.{Slot}
use Rattle.std.specs.Prelude.{Ok, Err}
use Rattle.tables.specs.Tables.{Found, none, found, get, put, slot_of}
use Rattle.bunch_places.specs.Bytes.{pasted, part, bytes_of, payload_bytes}
use Rattle.bunch_judging.specs.declared.Displacement.{Displacement}
use Rattle.bunch_judging.specs.declared.Effect.{Effect}
use Rattle.bunch_judging.specs.declared.Fate.{Fate}
use Rattle.bunch_judging.specs.declared.PartialBunchResult.{PartialBunchResult}
use Rattle.bunch_judging.specs.declared.PartialDiscardCause.{PartialDiscardCause}
use Rattle.bunch_judging.specs.Held.{Held, Fragment, Displaced}
use Rattle.bunch_judging.specs.Fates.{fate}
use Rattle.bunch_judging.specs.Headers.{after_test}
use Rattle.bunch_judging.specs.Messages.{replaced_by, displaced_by, displaced}
use Rattle.bunch_judging.specs.Results.{result_of}
use Rattle.bunch_judging.specs.Effects.{effect_of}
use Rattle.bunch_judging.specs.Standings.{value_of, displaced_values, of_displacement}
use Rattle.bunch_judging.proofs.Memory.{effect_on, shown, left_after, bytes_shown}
use Rattle.bunch_judging.proofs.Judged.{met_left}
use Rattle.bunch_held.specs.declared.Accumulator.{Accumulator}
use Rattle.bunch_held.specs.declared.BunchError.{BunchError}
use Rattle.bunch_held.specs.Memory.{HeldMemory, State}
use Rattle.bunch_held.specs.State.{Kept}
use Rattle.bunch_held.specs.Steps.{BunchAnswer, judged, told_all, call_refuses, showing, added, adding, locally, full, over, holding, local}
use Rattle.bunch_held.specs.Calls.{held_by, limits_of}
use Rattle.bunch_held.proofs.Holding.{kept}
use Rattle.bunch_held.proofs.Keeping.{without_kept}
use Rattle.bunch_settling.specs.declared.inner.messages.Settled.{Settled}
use Rattle.bunch_settling.specs.Settling.{Using, Lays}
use Rattle.bunch_settling.specs.Giving.{Gives}
use Rattle.bunch_held.proofs.Edits.{get_there, get_none}
use Rattle.bunch_settling.proofs.Giving.{at_same, free_same, unchanged, changes}
use Rattle.bunch_settling.specs.Fragments.{stayed_by}
use Rattle.bunch_joining.specs.Added.{told_by, of_judged}

-- displaced messages by value say the same
pub told_all_is : (ds : List Displaced) → map told_by (map value_of ds) ≡ told_all ds
told_all_is [] = refl
told_all_is (d ∷ ds) = rw (told_all_is ds) refl

pub tells : {r x : PartialBunchResult} (d : Displacement) (ds : List Displaced) → r ≡ x → of_displacement d ≡ displaced_values ds → of_judged (Ok (record { result = r; displaced = d })) ≡ judged x (told_all ds)
tells d ds e f = rw (e, f) (rw (told_all_is ds) refl)

-- what shows no byte displaces nothing
unreplaced : (c : PartialDiscardCause) (b : Bool) (m : Found Held) → b || false ≡ false → displaced_by c (replaced_by b m) ≡ []
unreplaced c true m e = cc
unreplaced c false m e = refl

unfallen : (c : PartialDiscardCause) (b zero : Bool) (m : Found Held) (x : Displaced) → (b || not zero) || not zero ≡ false → displaced_by c (replaced_by b m) ++ cond zero [] (x ∷ []) ≡ []
unfallen c true zero m x e = cc
unfallen c false true m x e = refl
unfallen c false false m x e = cc

pub none_displaced : (x : Fate) (m : Found Held) (f : Fragment) → (effect_on x f).shows_held || (effect_on x f).shows_payload ≡ false → displaced x m f ≡ []
unfolding displaced effect_of
none_displaced Fate.TurnedAway m f e = refl
none_displaced (Fate.Breaks k) m f e = cc
none_displaced (Fate.Fails c) m f e = cc
none_displaced Fate.Joins m f e = unreplaced _ f.header.b_partial_initial m e
none_displaced Fate.Finishes m f e = unreplaced _ f.header.b_partial_initial m e
none_displaced Fate.Falls m f e = unfallen _ f.header.b_partial_initial (eqb f.bits 0) m _ e

-- parts that are shown or not, as lengths
pub shown_parts : (b d : Bool) (start size : ℕ) (arena : List ℕ) (bits : ℕ) (payload : List ℕ)
    → part start (cond b size 0) arena ++ payload_bytes (cond d bits 0) payload ≡ cond b (part start size arena) [] ++ cond d (payload_bytes bits payload) []
unfolding payload_bytes
shown_parts true true start size arena bits payload = refl
shown_parts true false start size arena bits payload = refl
shown_parts false true start size arena bits payload = refl
shown_parts false false start size arena bits payload = refl

module _ (a : Accumulator) (m : HeldMemory) (used : ℕ) (u : Using a m used) (c : ℕ) (f : Fragment) (output : List ℕ) where
  abbrev s : State
  s = held_by a m

  too_long : 16383 < f.bits → local (limits_of a) s c (adding f) output ≡ call_refuses (payload_too_long f.bits) (get c s) output
  unfolding local locally added
  too_long h = rw (lt-ltb 16383 f.bits h) refl

  too_short : f.bits ≤ 16383 → length f.payload < bytes_of f.bits → local (limits_of a) s c (adding f) output ≡ call_refuses (payload_short f.bits) (get c s) output
  unfolding local locally added
  too_short h k = rw (le-ltb 16383 f.bits h, lt-ltb (8 * length f.payload) f.bits (omega arith)) refl

  module _ (same : holding c (get c s) s ≡ s) where
    pub gives_long : 16383 < f.bits → Gives a m c (local (limits_of a) s c (adding f) output) (of_judged (Err (BunchError.PayloadTooLong f.bits))) (record { accumulator = a; used = used }) m output
    gives_long h = rw (too_long h) (unchanged a m used u c (call_refuses (payload_too_long f.bits) (get c s) output) refl refl same)

    pub gives_few : f.bits ≤ 16383 → length f.payload < bytes_of f.bits
        → Gives a m c (local (limits_of a) s c (adding f) output) (of_judged (Err (BunchError.PayloadShort f.bits))) (record { accumulator = a; used = used }) m output
    gives_few h k = rw (too_short h k) (unchanged a m used u c (call_refuses (payload_short f.bits) (get c s) output) refl refl same)

  module _ (small : f.bits ≤ 16383) (enough : bytes_of f.bits ≤ length f.payload) (k : Found Held) (there : get c s ≡ k) (room much : Bool) (only : room ≡ true → k ≡ none)
      (room-is : room ≡ full (limits_of a) s c) (much_is : much ≡ over (limits_of a) s c (adding f)) (x : Fate) (x_is : x ≡ fate room much k f.header f.bits) (e : Effect) (e-is : e ≡ effect_on x f) where
    abbrev answer : BunchAnswer
    answer = judged (result_of x k f) (told_all (displaced x k f))

    local_is : local (limits_of a) s c (adding f) output ≡ showing (shown e k f) answer (left_after e k f) k output
    unfolding local locally added
    local_is =
        rw (e-is, x_is)
        (rw (there, ← room-is, ← much_is, le-ltb 16383 f.bits small, le-ltb (8 * length f.payload) f.bits (omega (arith, enough)), bytes_shown (fate room much k f.header f.bits) k f, met_left room much k f only) refl)

    pub gives_short : (n : ℕ) → n ≡ length (shown e k f) → length output < n → holding c k s ≡ s
        → Gives a m c (local (limits_of a) s c (adding f) output) (of_judged (Err (BunchError.OutputShort n))) (record { accumulator = a; used = used }) m output
    gives_short n n_is h same = rw (local_is, ← n_is, lt-ltb (length output) n h) (unchanged a m used u c (call_refuses (output_short n) k output) refl refl same)

    pub gives_judged : (bytes : List ℕ) {out : List ℕ} {r : Settled} {after : HeldMemory} {told : BunchAnswer} → bytes ≡ shown e k f → length bytes ≤ length output → out ≡ pasted 0 bytes output → told ≡ answer
        → (e.stays ≡ true → Kept a (put c (stayed_by e k (after_test k f.header) f.bits f.payload) s)) → Lays a m (holding c (left_after e k f) s) r after
        → Gives a m c (local (limits_of a) s c (adding f) output) told r after out
    gives_judged bytes bytes_are fits out-is told_is stays lays =
        rw (local_is, ← bytes_are, le-ltb (length output) (length bytes) fits)
        (changes a m used u c (record { answer = answer; output = pasted 0 bytes output; held = left_after e k f }) told_is out-is (go e.stays refl) lays)
      where
        go : (b : Bool) → e.stays ≡ b → Kept a (holding c (cond b (found (stayed_by e k (after_test k f.header) f.bits f.payload)) none) s)
        go true b = stays b
        go false b = without_kept a s (kept a m u.stands) c

-- putting back what a channel holds
pub always_same : (a : Accumulator) (m : HeldMemory) (used : ℕ) → Using a m used → (c : ℕ) → holding c (get c (held_by a m)) (held_by a m) ≡ held_by a m
always_same a m used u c = go (slot_of c (take a.active m.channels)) refl
  where
    go : (x : Slot) → slot_of c (take a.active m.channels) ≡ x → holding c (get c (held_by a m)) (held_by a m) ≡ held_by a m
    go (Ok i) e = rw (get_there a m u.stands c i e) (at_same a m used u c i e)
    go (Err i) e = rw (get_none a m u.stands c i e) (free_same a m used u c i e)
