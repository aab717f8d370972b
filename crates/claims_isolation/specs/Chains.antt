-- Demand 3: "an unbroken chain with no error flag, aligned before its end, on a channel holding nothing, then taken with room for it,
-- hands out exactly its fragments joined". The claim stands last.
use Rattle.std.specs.Prelude.{ℕ, ◌+◌, ◌*◌, ◌%◌, ◌≤◌, ◌≡◌, true, false, List, [], ◌∷◌, ◌++◌, map, eqb, length}
use Rattle.types.specs.Types.{longest_payload}
use Rattle.types.specs.declared.RawBunchHeader.{RawBunchHeader}
use Rattle.tables.specs.Tables.{none}
use Rattle.bunch_places.specs.Bytes.{pasted, payload_bytes}
use Rattle.bunch_judging.specs.Held.{Fragment}
use Rattle.bunch_judging.specs.Fates.{sequence_word, follows}
use Rattle.bunch_judging.specs.Results.{accepted}
use Rattle.bunch_held.specs.Memory.{HeldMemory}
use Rattle.bunch_held.specs.Sound.{fit}
use Rattle.bunch_held.specs.Steps.{Act, adding, taking, BunchAnswer, judged, handed}
use Rattle.claims_isolation.specs.Runs.{Call, Said, empty_lent, held_on, reply_to, next, said, lent_after, calls_of, said_of, Each}
use Rattle.claims_isolation.specs.Runs.{WithinLimits}

-- "payloads that 11 and 12 pass", "no error flag", "aligned before its end"
pub record Plain (f : Fragment) : Type 0 where
  pub passes_11 : f.bits ≤ longest_payload
  pub passes_12 : f.bits ≤ 8 * length f.payload
  pub no_flag : f.header.has_partial_error ≡ false
  pub aligned : f.header.b_partial_final ≡ false → f.bits % 8 ≡ 0

-- "its continuings, final on the last only": what may come after a fragment with this header
unfoldable pub GoesOn : RawBunchHeader → List Fragment → Type 0
GoesOn h [] = h.b_partial_final ≡ true
GoesOn h (f ∷ fs) =
    (h.b_partial_final ≡ false)
    × (f.header.b_partial_initial ≡ false)
    × (follows (sequence_word h) h.b_reliable f.header ≡ true)
    × GoesOn f.header fs

-- "An unbroken chain is one initial and its continuings"
pub record Unbroken (f : Fragment) (fs : List Fragment) : Type 0 where
  pub initial : f.header.b_partial_initial ≡ true
  pub continuings : GoesOn f.header fs
  pub plain : Each Plain (f ∷ fs)

-- "its fragments joined"
unfoldable pub joined_bits : List Fragment → ℕ
joined_bits [] = 0
joined_bits (f ∷ fs) = f.bits + joined_bits fs

unfoldable pub joined_bytes : List Fragment → List ℕ
joined_bytes [] = []
joined_bytes (f ∷ fs) = payload_bytes f.bits f.payload ++ joined_bytes fs

-- each add's answer: no error, nothing discarded or displaced, and the last one says to process the message
abbrev pub accepted_plainly : Fragment → BunchAnswer
accepted_plainly f = judged (accepted f.header (eqb f.bits 0) f.header.b_partial_final 0 0) []

abbrev pub acts_of : List Call → List Act
acts_of xs = map (λ (x : Call). x.act) xs

abbrev pub answers_of : List Said → List BunchAnswer
answers_of ys = map (λ (y : Said). y.answer) ys

-- After some calls the channel holds nothing. Of the calls that follow, those on it are the chain's adds, "no other call on that
-- channel between them or before the take"; calls on other channels stand anywhere among them. Then comes the take: its answer is the
-- first header and how many bits, the output begins with the bytes, and the channel holds nothing again.
abbrev pub JoinedChains : Type 0
JoinedChains =
    (active buffered : ℕ) (m : HeldMemory) → fit active buffered m ≡ true
    → (before xs : List Call) → WithinLimits active buffered (before ++ xs)
    → let then = lent_after (empty_lent active buffered m) before in
    (c : ℕ) → held_on c then ≡ none
    → (f : Fragment) (fs : List Fragment) → Unbroken f fs → acts_of (calls_of c xs) ≡ map adding (f ∷ fs)
    → (output : List ℕ) → length (joined_bytes (f ∷ fs)) ≤ length output
    → let last = lent_after then xs in
    let take : Call = record { channel = c; act = taking; output = output } in
    (answers_of (said_of c (said then xs)) ≡ map accepted_plainly (f ∷ fs))
    × ((reply_to last take).answer ≡ handed (record { header = f.header; bits = joined_bits (f ∷ fs) }))
    × ((reply_to last take).output ≡ pasted 0 (joined_bytes (f ∷ fs)) output)
    × (held_on c (next last take) ≡ none)
