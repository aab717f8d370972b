-- Three accumulators whose calls could each keep a contract of their own, and that break demand 3. Each asks one thing of the state in
-- another way than ours does, and gives some call another answer where the channels come in another order.
use Prim.Native.Nat.{ℕ, ◌+◌}
use mathlib.Core.Path.{◌≡◌, refl, sym, ap, ◌∙◌}
use mathlib.Core.Bool.{Bool, true, false, cond}
use mathlib.Core.List.{List, [], ◌∷◌}
use native.Mathlib.Omega.{arith}
use lib.Dec.{eqb, leb, ltb}
use lib.ListN.{length}
use Rattle.tables.specs.Tables.{Found, none, found, get, put, without}
use Rattle.tables.specs.Tables as T
use Rattle.bunch_places.specs.Bytes.{pasted, payload_bytes}
use Rattle.bunch_judging.specs.Held.{Held, Fragment}
use Rattle.types.specs.Continuing.{continues, following}
use Rattle.bunch_judging.specs.Fates.{fate, follows, overlaps, admitted, weighed, ending, continued}
use Rattle.bunch_judging.specs.Headers.{after_test, flagged}
use Rattle.bunch_judging.specs.Messages.{bytes_of_all, displaced, bits_of_all, held_after}
use Rattle.bunch_judging.specs.Results.{result_of}
use Rattle.bunch_held.specs.Memory.{State, total}
use Rattle.bunch_held.specs.Steps.{Act, adding, BunchAnswer, refused, judged, handed, nothing, Local, Limits, reached, added, locally, full, over, holding}
use Rattle.claims_isolation.specs.Runs.{Call, calls_of, Each, is_in, payloads, WithinLimits}
use Rattle.claims_isolation.specs.Isolation.{others, in_turn}
use Rattle.claims_isolation.proofs.Example.{header, in_range, start, end}

-- what an accumulator asks of the state: is the table full for a channel, do the bits pass the limit, which message does a call meet
pub record Asking : Type 0 where
  pub is_full : Limits → State → ℕ → Bool
  pub is_over : Limits → State → ℕ → Act → Bool
  pub meets : ℕ → State → Found Held

abbrev pub step : Asking → Limits → State → Call → Local
step q l s x = locally (q.is_full l s x.channel) (q.is_over l s x.channel x.act) (q.meets x.channel s) x.act x.output

-- one channel's answers in a run
unfoldable pub answers_of : Asking → Limits → ℕ → State → List Call → List BunchAnswer
answers_of q l c s [] = []
answers_of q l c s (x ∷ xs) =
    let y = step q l s x in
    let rest = answers_of q l c (holding x.channel y.held s) xs in
    cond (eqb c x.channel) (y.answer ∷ rest) rest

-- what demand 3 says of its answers, under the limits that it asks for
abbrev pub Agrees : Asking → Type 0
Agrees q =
    (active buffered : ℕ) (xs : List Call) (f : WithinLimits active buffered xs) (c : ℕ)
    → let l : Limits = record { active = active; buffered = buffered } in
    answers_of q l c [] xs ≡ answers_of q l c [] (in_turn f.channels xs)

abbrev ours : Asking
ours = record { is_full = full; is_over = over; meets = λ c s. get c s }

-- ## Three others

-- the active limit is tested on a channel that holds a message too
abbrev pub any_full : Limits → State → ℕ → Bool
any_full l s c = leb l.active (length s)

abbrev pub always_tested : Asking
always_tested = record { is_full = any_full; is_over = over; meets = λ c s. get c s }

-- the channel's own message counts twice
abbrev pub twice_over : Limits → State → ℕ → Act → Bool
twice_over l s c a = ltb l.buffered (total s + reached (get c s) a)

-- a call meets the first message held: last term's fault
abbrev pub first_held : ℕ → State → Found Held
first_held c [] = none
first_held c (x ∷ s) = found x.1

abbrev pub own_twice : Asking
own_twice = record { is_full = full; is_over = twice_over; meets = λ c s. get c s }

abbrev pub meets_first : Asking
meets_first = record { is_full = full; is_over = over; meets = first_held }

-- ## Where they fail

discarded : List BunchAnswer → ℕ
discarded [] = 0
discarded (refused e ∷ rest) = discarded rest
discarded (judged r ds ∷ rest) = r.discarded_bits + discarded rest
discarded (handed t ∷ rest) = discarded rest
discarded (nothing ∷ rest) = discarded rest

abbrev limits : ℕ → Limits
limits buffered = record { active = 2; buffered = buffered }

-- a message that starts anew, of two bytes
abbrev anew : Fragment
anew = record { header = header true 1; bits = 16; payload = 1 ∷ 2 ∷ [] }

-- with room for what may be displaced
abbrev send : ℕ → Fragment → Call
send c f = record { channel = c; act = adding f; output = 0 ∷ 0 ∷ 0 ∷ 0 ∷ [] }

-- channel 3 starts, 5 starts, and 3 starts anew
abbrev starts_again : List Call
starts_again = send 3 (start 17) ∷ send 5 (start 34) ∷ send 3 anew ∷ []

-- channel 5 starts, and then 3's whole message comes
abbrev starts_before : List Call
starts_before = send 5 (start 34) ∷ send 3 (start 17) ∷ send 3 (end 255) ∷ []

unfoldable again_fits : WithinLimits 2 32 starts_again
unfolding Each is_in payloads
again_fits =
    let first = in_range true 1 (omega arith) in
    record { channels = 3 ∷ 5 ∷ []; few = omega arith; among = (refl, (refl, (refl, tt))); bits = omega arith; in_range = (first, (first, (first, tt))) }

unfoldable before_fits : WithinLimits 2 20 starts_before
unfolding Each is_in payloads
before_fits =
    let first = in_range true 1 (omega arith) in
    let last = in_range false 2 (omega arith) in
    record { channels = 3 ∷ 5 ∷ []; few = omega arith; among = (refl, (refl, (refl, tt))); bits = omega arith; in_range = (first, (first, (last, tt))) }

-- how many bits channel 3's fragments discard in that order, and with channel 5 after channel 3
abbrev Discards : Asking → ℕ → List Call → ℕ → ℕ → Type 0
Discards q buffered xs m n =
    (discarded (answers_of q (limits buffered) 3 [] xs) ≡ m) × (discarded (answers_of q (limits buffered) 3 [] (in_turn (3 ∷ 5 ∷ []) xs)) ≡ n)

-- ours discards the same in both orders: the message that is begun anew, and nothing
runs : (Discards ours 32 starts_again 8 8 × Discards ours 20 starts_before 0 0) × Discards always_tested 32 starts_again 16 8
    × Discards own_twice 20 starts_before 12 0 × Discards meets_first 20 starts_before 8 0
unfolding answers_of in_turn calls_of others get total discarded locally added bytes_of_all displaced fate full admitted weighed over overlaps without ending continued result_of after_test flagged bits_of_all held_after put T.added_channel payload_bytes pasted follows continues following
runs = (((refl, refl), (refl, refl)), (refl, refl), (refl, refl), (refl, refl))

-- ## So demand 3 is not theirs

differs : (q : Asking) (buffered : ℕ) (xs : List Call) (m n : ℕ) → Discards q buffered xs m n → (m ≡ n → ⊥)
    → answers_of q (limits buffered) 3 [] xs ≡ answers_of q (limits buffered) 3 [] (in_turn (3 ∷ 5 ∷ []) xs) → ⊥
differs q buffered xs m n d not_equal e = not_equal (sym d.0 ∙ ap discarded e ∙ d.1)

pub always_tested_fails : Agrees always_tested → ⊥
unfolding again_fits
always_tested_fails agrees = differs always_tested 32 starts_again 16 8 runs.1 (λ e. omega arith) (agrees 2 32 starts_again again_fits 3)

pub own_twice_fails : Agrees own_twice → ⊥
unfolding before_fits
own_twice_fails agrees = differs own_twice 20 starts_before 12 0 runs.2 (λ e. omega arith) (agrees 2 20 starts_before before_fits 3)

pub meets_first_fails : Agrees meets_first → ⊥
unfolding before_fits
meets_first_fails agrees = differs meets_first 20 starts_before 8 0 runs.3 (λ e. omega arith) (agrees 2 20 starts_before before_fits 3)
