-- Demand 3's second sentence: among all other calls the chain is as if it were alone, so its message is held when the take comes.
use Prim.Native.Nat.{ℕ, ◌+◌, ◌≤◌}
use mathlib.Core.Path.{◌≡◌, refl, ap, ◌∙◌}
use mathlib.Core.Bool.{true}
use mathlib.Core.List.{List, [], ◌∷◌, ◌++◌, map}
use native.Mathlib.Omega.{arith}
use lib.ListN.{length}
use borrow.Author.Tests.{le-ltb}
use Rattle.tables.specs.Tables.{Found, none, found, get}
use Rattle.words.specs.Range.{InRange}
use Rattle.words.proofs.Back.{back}
use Rattle.bunch_places.specs.Bytes.{pasted}
use Rattle.bunch_judging.specs.Held.{Held, Fragment}
use Rattle.bunch_held.specs.Memory.{State}
use Rattle.bunch_held.specs.Sound.{memory_sound}
use Rattle.bunch_held.specs.Steps.{adding, taking, handed, message_out, Local, taken, locally, local, state_after}
use Rattle.bunch_held.specs.Calls.{limits_of, held_by, called}
use Rattle.claims_isolation.proofs.Single.{get_holding}
use Rattle.claims_isolation.proofs.Lasting.{holds_next}
use Rattle.claims_isolation.specs.Runs.{Call, Lent, empty_lent, held_on, reply_to, next, lent_after, calls_of, Each, Among, CallInRange, payloads}
use Rattle.claims_isolation.specs.Chains.{acts_of, answers_of, JoinedChains}
use Rattle.claims_isolation.proofs.Alone.{alone, held_alone}
use Rattle.claims_isolation.proofs.Apart.{apart, room_less, room_left}
use Rattle.claims_isolation.proofs.Orders.{each_of}
use Rattle.claims_isolation.proofs.Isolation.{opened_room}
use Rattle.claims_isolation.proofs.Joining.{chain_joins}

-- ## A take

module _ (l : Lent) (s : memory_sound l.accumulator l.memory ≡ true) (c : ℕ) (output : List ℕ) {h : Held} (there : held_on c l ≡ found h) (finished : h.finished ≡ true)
    (room : length h.message.bytes ≤ length output) where
  abbrev take : Call
  take = record { channel = c; act = taking; output = output }

  abbrev state : State
  state = held_by l.accumulator l.memory

  abbrev step : Local
  step = local (limits_of l.accumulator) state c taking output

  hands_out : step ≡ record { answer = handed (message_out h.message); output = pasted 0 h.message.bytes output; held = none }
  unfolding local locally taken
  hands_out = rw (there, finished, le-ltb (length output) (length h.message.bytes) room) refl

  taken_out : ((reply_to l take).answer ≡ handed (message_out h.message)) × ((reply_to l take).output ≡ pasted 0 h.message.bytes output) × (held_on c (next l take) ≡ none)
  unfolding called state_after
  taken_out = (
    rw (s, hands_out) refl,
    rw (s, hands_out) refl,
    ap (get c) (holds_next l.accumulator l.memory c taking output s tt) ∙ get_holding c step.held state ∙ ap (λ (x : Local). x.held) hands_out,
  )

-- ## The calls before the take

payloads_append : (xs ys : List Call) → payloads (xs ++ ys) ≡ payloads xs + payloads ys
unfolding payloads
payloads_append [] ys = omega arith
payloads_append (x ∷ xs) ys = omega (arith, payloads_append xs ys)

each_append : (P : Call → Type 0) (xs ys : List Call) → Each P (xs ++ ys) → Each P xs × Each P ys
unfolding Each
each_append P [] ys e = (tt, e)
each_append P (x ∷ xs) ys e = let rest = each_append P xs ys e.1 in ((e.0, rest.0), rest.1)

-- the initial fragment's header is within its types
first_in_range : (xs : List Call) (f : Fragment) (fs : List Fragment) → acts_of xs ≡ map adding (f ∷ fs) → Each CallInRange xs → InRange f.header
unfolding Each
first_in_range [] f fs e t = let z : ◌≡◌ {A = ℕ} 0 1 = cc in absurd (omega arith)
first_in_range (x ∷ xs) f fs e t = let act : x.act ≡ adding f = cc in rw act at t.0

pub joined_chains : JoinedChains
joined_chains active buffered m fits before xs f c empty g gs unbroken acts output enough =
    let cs = f.channels in
    let a = empty_lent active buffered m in
    let then = lent_after a before in
    let last = lent_after then xs in
    let among = each_append (Among cs) before xs f.among in
    let in_range = each_append CallInRange before xs f.in_range in
    let all = room_less cs a (payloads (before ++ xs)) (payloads before + payloads xs) (omega (arith, payloads_append before xs)) (opened_room active buffered m fits (before ++ xs) f) in
    let some = room_left cs a before (payloads xs) among.0 in_range.0 all in
    let none_left = room_left cs then xs 0 among.1 in_range.1 (room_less cs then (payloads xs) (payloads xs + 0) (omega arith) some) in
    let by_itself = apart cs c then xs among.1 in_range.1 some in
    let chain = chain_joins (calls_of c xs) g gs acts unbroken in
    let whole = chain.held in
    let there = by_itself.same_held ∙ ap (λ (x : Found Held). held_alone x (calls_of c xs)) empty ∙ whole.there in
    let take = taken_out last none_left.stays_sound c output there whole.finished (rw whole.says enough) in
    let header = back g.header (first_in_range (calls_of c xs) g gs acts (each_of CallInRange c xs in_range.1)) in (
      ap answers_of by_itself.same_said ∙ ap (λ (x : Found Held). answers_of (alone x (calls_of c xs))) empty ∙ chain.answers,
      take.0 ∙ rw (whole.says, header) refl,
      take.1 ∙ rw whole.says refl,
      take.2,
    )
