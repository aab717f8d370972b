-- What a channel's calls say among all others' is what they say by themselves. Along the calls the memory stays sound, only channels
-- of the list hold anything, and what is held leaves room for the payloads to come: so neither limit ever binds.
use Prim.Native.Nat.{ℕ, ◌+◌, ◌≤◌}
use mathlib.Core.Path.{◌≡◌, refl, sym, ap, ◌∙◌}
use mathlib.Core.Bool.{Bool, true, false, false≢true}
use mathlib.Core.List.{List, [], ◌∷◌}
use native.Mathlib.Omega.{arith}
use lib.Dec.{eqb}
use lib.ListN.{length}
use borrow.Author.Tests.{eqb-true, eqb-false}
use Rattle.tables.specs.Columns.{ascending}
use Rattle.tables.specs.Tables.{get, channels}
use Rattle.bunch_held.specs.Memory.{State, total}
use Rattle.bunch_held.specs.Sound.{memory_sound}
use Rattle.bunch_held.specs.Steps.{Local, Limits, local, state_after}
use Rattle.bunch_held.specs.Calls.{limits_of, held_by, called}
use Rattle.bunch_held.proofs.Soundness.{stands}
use Rattle.bunch_held.proofs.Holding.{kept}
use Rattle.claims_isolation.proofs.Single.{get_holding}
use Rattle.claims_isolation.proofs.Lasting.{holds_next, lasts}
use Rattle.claims_isolation.proofs.Telling.{others_held}
use Rattle.claims_isolation.specs.Runs.{Call, Lent, held_on, reply_to, next, said, lent_after, calls_of, said_of, Each, is_in, Among, CallInRange, payload_of, payloads}
use Rattle.claims_isolation.proofs.Places.{Named, fewer}
use Rattle.claims_isolation.proofs.Alone.{by_itself, saying, alone, held_alone, total_after, locality}

abbrev state_in : Lent → State
state_in l = held_by l.accumulator l.memory

-- what of some calls is channel c's is as if they were alone
pub record Apart (l : Lent) (xs : List Call) (c : ℕ) : Type 0 where
  pub same_said : said_of c (said l xs) ≡ alone (held_on c l) (calls_of c xs)
  pub same_held : held_on c (lent_after l xs) ≡ held_alone (held_on c l) (calls_of c xs)

module _ (cs : List ℕ) where
  -- there is room for n bits more, and for every channel of the list
  pub record Room (l : Lent) (n : ℕ) : Type 0 where
    pub stays_sound : memory_sound l.accumulator l.memory ≡ true
    pub few : length cs ≤ l.accumulator.max_active
    pub named : Named cs (state_in l)
    pub bits : total (state_in l) + n ≤ l.accumulator.max_buffered_bits

  -- ## One call

  module _ (l : Lent) (x : Call) (among : Among cs x) (in_range : CallInRange x) (n : ℕ) (r : Room l (payload_of x.act + n)) where
    abbrev c : ℕ
    c = x.channel

    abbrev limits : Limits
    limits = limits_of l.accumulator

    abbrev step : Local
    step = local limits (state_in l) c x.act x.output

    ordered : ascending (channels (state_in l)) ≡ true
    ordered = (kept l.accumulator l.memory (stands l.accumulator l.memory r.stays_sound)).ordered

    goes_by_itself : step ≡ by_itself (held_on c l) x
    goes_by_itself =
        locality limits (state_in l) c x.act x.output ordered
        (λ e. omega (arith, fewer cs (state_in l) ordered r.named c among e, r.few))
        (omega (arith, r.bits))

    says : record { channel = c; answer = (reply_to l x).answer; output = (reply_to l x).output } ≡ saying c (by_itself (held_on c l) x)
    unfolding called
    says = rw (r.stays_sound, goes_by_itself) refl

    state_next : state_in (next l x) ≡ state_after limits (state_in l) c x.act x.output
    state_next = holds_next l.accumulator l.memory c x.act x.output r.stays_sound in_range

    own : held_on c (next l x) ≡ (by_itself (held_on c l) x).held
    unfolding state_after
    own = ap (get c) state_next ∙ get_holding c step.held (state_in l) ∙ ap (λ (y : Local). y.held) goes_by_itself

    others : (d : ℕ) → (d ≡ c → ⊥) → held_on d (next l x) ≡ held_on d l
    others d e = others_held l.accumulator l.memory c x.act x.output r.stays_sound in_range d e

    same_limits : limits_of (next l x).accumulator ≡ limits
    unfolding called
    same_limits = rw r.stays_sound refl

    not_named : (d : ℕ) → is_in d cs ≡ false → d ≡ c → ⊥
    not_named d i e = false≢true (sym i ∙ rw e among)

    room_next : Room (next l x) n
    room_next =
        record {
          stays_sound = lasts l.accumulator l.memory c x.act x.output in_range ∙ r.stays_sound;
          few = omega (arith, r.few, ap (λ (k : Limits). k.active) same_limits);
          named = λ d i. others d (not_named d i) ∙ r.named d i;
          bits =
              omega (
                arith,
                r.bits,
                ap total state_next,
                total_after limits (state_in l) c x.act x.output ordered,
                ap (λ (k : Limits). k.buffered) same_limits,
              );
        }

  -- ## Many calls

  module _ (c : ℕ) where
    apart_step : (l : Lent) (x : Call) (xs : List Call) → Among cs x → CallInRange x → Room l (payload_of x.act + payloads xs) → Apart (next l x) xs c
        → Apart l (x ∷ xs) c
    unfolding said lent_after calls_of said_of alone held_alone
    apart_step l x xs among in_range r rest = go (eqb c x.channel) refl
      where
        go : (b : Bool) → eqb c x.channel ≡ b → Apart l (x ∷ xs) c
        go true q =
            let same : c ≡ x.channel = eqb-true c x.channel q in
            let held : held_on c (next l x) ≡ (by_itself (held_on c l) x).held = rw same (own l x among in_range (payloads xs) r) in
            record {
              same_said = rw (q, rest.same_said, held, says l x among in_range (payloads xs) r, ← same) refl;
              same_held = rw (q, rest.same_held, held) refl;
            }
        go false q =
            let stays = others l x among in_range (payloads xs) r c (eqb-false c x.channel q) in
            record { same_said = rw (q, ← stays) rest.same_said; same_held = rw (q, ← stays) rest.same_held }

    pub apart : (l : Lent) (xs : List Call) → Each (Among cs) xs → Each CallInRange xs → Room l (payloads xs) → Apart l xs c
    unfolding said lent_after calls_of said_of alone held_alone Each payloads
    apart l [] among in_range r = record { same_said = refl; same_held = refl }
    apart l (x ∷ xs) among in_range r =
        apart_step l x xs among.0 in_range.0 r (apart (next l x) xs among.1 in_range.1 (room_next l x among.0 in_range.0 (payloads xs) r))

  -- ## The room that is left

  pub room_less : (l : Lent) (n k : ℕ) → k ≤ n → Room l n → Room l k
  room_less l n k less r = record { stays_sound = r.stays_sound; few = r.few; named = r.named; bits = omega (arith, r.bits) }

  -- after some calls, for n bits more
  pub room_left : (l : Lent) (xs : List Call) (n : ℕ) → Each (Among cs) xs → Each CallInRange xs → Room l (payloads xs + n) → Room (lent_after l xs) n
  unfolding lent_after Each payloads
  room_left l [] n among in_range r = room_less l (0 + n) n (omega arith) r
  room_left l (x ∷ xs) n among in_range r =
      let b = payload_of x.act in
      let first = room_less l (b + payloads xs + n) (b + (payloads xs + n)) (omega arith) r in
      room_left (next l x) xs n among.1 in_range.1 (room_next l x among.0 in_range.0 (payloads xs + n) first)
