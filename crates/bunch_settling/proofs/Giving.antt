-- Where a channel's step leaves the state as it was, so does the reply; where it lays another, the next call can go on with that.
use Prim.Native.Nat.{ℕ, zero, suc, ◌<◌}
use mathlib.Core.Path.{◌≡◌, refl, sym, ap, ◌∙◌}
use mathlib.Core.Bool.{Bool, true, false, cond}
use mathlib.Core.List.{List, [], ◌∷◌}
use native.Mathlib.Nat.{not-suc-le-zero, le_of_suc-le-suc}
use native.Mathlib.Omega.{arith}
use lib.ListN.{length, get_or, set, take}
use lib.Seq.{length-take-le}
use Rattle.std.specs.Prelude.{Ok, Err}
use Rattle.tables.specs.Tables.{none, found, entries, slot_of}
use Rattle.tables.proofs.Join.{at_put}
use Rattle.bunch_held.specs.declared.Accumulator.{Accumulator}
use Rattle.bunch_held.specs.declared.BunchError.{BunchError}
use Rattle.bunch_held.specs.Memory.{HeldMemory, held_memory, held_at, held_in, state_of, bytes_all}
use Rattle.bunch_held.specs.State.{Kept}
use Rattle.bunch_held.specs.Steps.{Act, BunchAnswer, refused, Local, holding, local, state_after}
use Rattle.bunch_held.specs.Sound.{memory_sound}
use Rattle.bunch_held.specs.Refusals.{error_paper}
use Rattle.bunch_held.specs.Calls.{held_by, tested, limits_of, called}
use Rattle.bunch_held.proofs.Soundness.{stands, passes}
use Rattle.bunch_held.proofs.Holding.{message_at, length_held, columns, message_at_is, same_memory, same_counts}
use Rattle.bunch_held.proofs.Laying.{laid_stands, state_back}
use Rattle.bunch_held.proofs.Edits.{place_live, without_same}
use Rattle.bunch_settling.specs.declared.inner.messages.Settled.{Settled}
use Rattle.bunch_settling.specs.Settling.{Using, Lays}
use Rattle.bunch_settling.specs.Giving.{given_reply, Gives}

set_same : {A : Type 0} (d : A) (i : ℕ) (l : List A) {x : A} → i < length l → get_or l i d ≡ x → set l i x ≡ l
set_same d i [] h e = absurd (not-suc-le-zero h)
set_same d zero (y ∷ l) h e = ap (λ (t : _). t ∷ l) (sym e)
set_same d (suc i) (y ∷ l) h e = ap (λ (t : List _). y ∷ t) (set_same d i l (le_of_suc-le-suc h) e)

module _ (a : Accumulator) (m : HeldMemory) (used : ℕ) (u : Using a m used) (c : ℕ) where
  -- the channel keeps what it holds
  pub at_same : (i : ℕ) → slot_of c (take a.active m.channels) ≡ Ok i → holding c (found (message_at m i)) (held_by a m) ≡ held_by a m
  unfolding state_of
  at_same i slot =
      let s = u.stands in
      let cs = take a.active m.channels in
      let ps = take a.active m.places in
      let hs = held_in ps m.arena in
      let live = place_live a m s c i slot in
      let n : length cs ≡ a.active = length-take-le a.active m.channels (omega (arith, s)) in
      let k : length hs ≡ a.active = length_held ps m.arena ∙ length-take-le a.active m.places (omega (arith, s)) in
      let e : get_or hs i (held_at [] []) ≡ message_at m i = rw (columns a m s).second at (message_at_is a m s (held_at [] []) i live) in
      at_put c i cs slot hs (n ∙ sym k) s.ascends (message_at m i) ∙ ap (entries cs) (set_same (held_at [] []) i hs (omega (arith, live, k)) e)

  pub free_same : (i : ℕ) → slot_of c (take a.active m.channels) ≡ Err i → holding c none (held_by a m) ≡ held_by a m
  free_same i slot = without_same a m u.stands c i slot

  pub unchanged : (x : Local) {answer : BunchAnswer} {output : List ℕ} → answer ≡ x.answer → output ≡ x.output → holding c x.held (held_by a m) ≡ held_by a m
      → Gives a m c x answer (record { accumulator = a; used = used }) m output
  unchanged x e f same =
      record { reply_is = rw (e, f, same, same_memory a m u.stands, same_counts a m u.stands) refl; goes_on = u }

  pub changes : (x : Local) {answer : BunchAnswer} {output : List ℕ} {r : Settled} {after : HeldMemory} → answer ≡ x.answer → output ≡ x.output
      → Kept a (holding c x.held (held_by a m)) → Lays a m (holding c x.held (held_by a m)) r after → Gives a m c x answer r after output
  changes x e f k l =
      let s = holding c x.held (held_by a m) in
      record {
        reply_is = rw (e, f, l.memory_is, l.counts) refl;
        goes_on =
            rw (l.memory_is, l.counts, l.used_is)
            (record { stands = laid_stands s m a u.stands.opens k; used_is = rw (state_back s m k.good) refl });
      }

-- the test refuses unsound memory alone, and says so
pub refuses : (a : Accumulator) (m : HeldMemory) {e : BunchError} → tested a m ≡ Err e → (memory_sound a m ≡ false) × (e ≡ BunchError.Unsound)
refuses a m {e} q = go (memory_sound a m) refl q
  where
    go : (b : Bool) → memory_sound a m ≡ b → cond b (Ok (length (bytes_all (held_by a m)))) (Err BunchError.Unsound) ≡ Err e → (memory_sound a m ≡ false) × (e ≡ BunchError.Unsound)
    go true f g = ((cc), (cc))
    go false f g = (f, cc)

-- The call is its inner form after the test.
module _ (a : Accumulator) (m : HeldMemory) (c : ℕ) (act : Act) (output : List ℕ) where
  pub goes : {used : ℕ} → Using a m used → {answer : BunchAnswer} {r : Settled} {m' : HeldMemory} {out : List ℕ} → Gives a m c (local (limits_of a) (held_by a m) c act output) answer r m' out
      → given_reply answer r m' out ≡ called a m c act output
  unfolding called state_after
  goes u g = g.reply_is ∙ rw (passes a m u.stands) refl

  -- and so is the reply of memory that was lent on
  pub goes_back : {used : ℕ} → Using a m used → {answer : BunchAnswer} {r : Settled} {channels arena channels' arena' out : List ℕ} {places places' : List (List ℕ)} → channels' ≡ channels → places' ≡ places → arena' ≡ arena
      → Gives a m c (local (limits_of a) (held_by a m) c act output) answer r (held_memory channels places arena) out → given_reply answer r (held_memory channels' places' arena') out ≡ called a m c act output
  goes_back u e f k g = rw (e, f, k) (goes u g)

  pub ten : {e : BunchError} → tested a m ≡ Err e → record { answer = refused (error_paper e); accumulator = a; memory = m; output = output } ≡ called a m c act output
  unfolding called
  ten {e} q = let r = refuses a m q in rw (r.1, r.0) refl

pub passed : (a : Accumulator) (m : HeldMemory) (used : ℕ) → tested a m ≡ Ok used → Using a m used
passed a m used e = go (memory_sound a m) refl e
  where
    go : (b : Bool) → memory_sound a m ≡ b → cond b (Ok (length (bytes_all (held_by a m)))) (Err BunchError.Unsound) ≡ Ok used → Using a m used
    go true f g = let same : used ≡ length (bytes_all (held_by a m)) = cc in record { stands = stands a m f; used_is = same }
    go false f g = let z : ◌≡◌ {A = ℕ} 0 1 = cc in absurd (omega arith)
