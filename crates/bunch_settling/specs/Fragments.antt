-- The places and messages that a fragment leaves, in the words that the code writes.
use Rattle.std.specs.Prelude.{ℕ, ◌+◌, ◌^◌, ◌≤◌, ◌<◌, ◌≡◌, Bool, true, cond, List, [], ◌∷◌, length, get_or, drop}
use mir.Val.{bool_byte}
use Rattle.types.specs.Types.{longest_payload}
use Rattle.types.specs.declared.RawBunchHeader.{RawBunchHeader}
use Rattle.tables.specs.Tables.{Found, none, found, put}
use Rattle.words.specs.Words.{header_words}
use Rattle.bunch_places.specs.Bytes.{part, bytes_of}
use Rattle.bunch_judging.specs.declared.Effect.{Effect}
use Rattle.bunch_judging.specs.Held.{Held, fragment_of}
use Rattle.bunch_judging.specs.Fates.{sequence_word}
use Rattle.bunch_judging.specs.Messages.{joined_by, base, grown}
use Rattle.bunch_held.specs.declared.Accumulator.{Accumulator}
use Rattle.bunch_held.specs.Memory.{HeldMemory, size_of, held_at}
use Rattle.bunch_held.specs.State.{Kept}
use Rattle.bunch_held.specs.Calls.{held_by}
use Rattle.bunch_settling.specs.Settling.{Occupied, Vacant}

abbrev pub started_words : RawBunchHeader → ℕ → ℕ → Bool → List ℕ
started_words h sequence bits finished = bits ∷ bool_byte finished ∷ bool_byte h.b_reliable ∷ sequence ∷ header_words h

abbrev pub joined_words : List ℕ → ℕ → ℕ → Bool → List ℕ
joined_words p sequence bits finished = (get_or p 0 0 + bits) ∷ bool_byte finished ∷ get_or p 2 0 ∷ sequence ∷ drop 4 p

abbrev pub words_after : Bool → Bool → List ℕ → RawBunchHeader → ℕ → ℕ → List ℕ
words_after anew finished p h sequence bits = cond anew (started_words h sequence bits finished) (joined_words p sequence bits finished)

-- what writing place i asks
pub record Joinable (places : List (List ℕ)) (i bits : ℕ) : Type 0 where
  pub there : i < length places
  pub words : length (get_or places i []) ≡ 24
  pub few : get_or (get_or places i []) 0 0 + bits < 2 ^ 64

-- what place i holds, its bytes from `start` on
abbrev pub held_in_place : ℕ → ℕ → HeldMemory → Held
held_in_place i start m = let p = get_or m.places i [] in held_at p (part start (size_of p) m.arena)

-- the message that stays, of a fragment whose header is h after the sequence test
abbrev pub stayed_by : Effect → Found Held → RawBunchHeader → ℕ → List ℕ → Held
stayed_by e m h bits payload = grown e.finished (base (joined_by e.anew m) h) (fragment_of h bits payload)

abbrev pub left_by : Effect → Found Held → RawBunchHeader → ℕ → List ℕ → Found Held
left_by e m h bits payload = cond e.stays (found (stayed_by e m h bits payload)) none

-- a message that stays leaves a state within the limits
pub record Holds (a : Accumulator) (m : HeldMemory) (used c i start : ℕ) (e : Effect) (h : RawBunchHeader) (sequence bits : ℕ)
    (payload : List ℕ) : Type 0 where
  pub occupied : Occupied a m used c i start
  pub sequence_is : sequence ≡ sequence_word h
  pub enough : bytes_of bits ≤ length payload
  pub short : bits ≤ longest_payload
  pub kept : e.stays ≡ true → Kept a (put c (stayed_by e (found (held_in_place i start m)) h bits payload) (held_by a m))

-- and a new one starts
pub record Lacks (a : Accumulator) (m : HeldMemory) (used c i start : ℕ) (e : Effect) (h : RawBunchHeader) (sequence bits : ℕ)
    (payload : List ℕ) : Type 0 where
  pub vacant : Vacant a m used c i start
  pub sequence_is : sequence ≡ sequence_word h
  pub enough : bytes_of bits ≤ length payload
  pub short : bits ≤ longest_payload
  pub kept : e.stays ≡ true → Kept a (put c (stayed_by e none h bits payload) (held_by a m))
