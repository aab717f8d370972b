-- What many calls in a row come to: the state that they leave, and the sum of their answers' words.
use Rattle.std.specs.Prelude.{◌≡◌, ℕ, zero, suc, ◌+◌, ◌*◌, ◌%◌, ◌^◌, cond, List, [], ◌∷◌, length, take, drop, slice_index_or}
use Rattle.words.specs.Words.{header_words, header_from}
use Rattle.bunch_held.specs.declared.Accumulator.{Accumulator}
use Rattle.bunch_held.specs.Memory.{HeldMemory}
use Rattle.bunch_held.specs.Steps.{Act, adding, taking, BunchAnswer, refused, judged, handed, nothing}
use Rattle.bunch_held.specs.Calls.{BunchReply, called}
use Rattle.bunch_settling.specs.Settling.{Using}
use Rattle.exports_bunch_words.specs.Fragments.{result_words}
use Rattle.bunch_judging.specs.Held.{fragment_of}

unfoldable pub summed : ℕ → List ℕ → ℕ
summed sum [] = sum
summed sum (w ∷ ws) = summed ((sum + w) % 2 ^ 64) ws

-- the words of an answer that are summed
abbrev pub answer_words : BunchAnswer → List ℕ
answer_words (refused e) = []
answer_words (judged r ds) = result_words r
answer_words (handed t) = t.bits ∷ header_words t.header
answer_words nothing = []

-- how far it has come
pub record Run : Type 0 where
  pub accumulator : Accumulator
  pub memory : HeldMemory
  pub output : List ℕ
  pub sum : ℕ

abbrev pub run : Accumulator → HeldMemory → List ℕ → ℕ → Run
run a m output sum = record { accumulator = a; memory = m; output = output; sum = sum }

abbrev pub going_on : BunchReply → ℕ → Run
going_on r sum = run r.accumulator r.memory r.output (summed sum (answer_words r.answer))

unfoldable pub timed_call : ℕ → Act → Run → Run
timed_call c act x = going_on (called x.accumulator x.memory c act x.output) x.sum

-- a fragment, and its message if it is the last
unfoldable pub turn : List ℕ → List ℕ → Run → Run
turn payload words x =
    let h = header_from words in
    let y = timed_call h.ch_index (adding (fragment_of h h.payload_bit_count payload)) x in
    cond h.b_partial_final (timed_call h.ch_index taking y) y

-- payload k: there are 61 of 1,000 bytes, which come round and round
abbrev pub timed_payload : List ℕ → ℕ → List ℕ
timed_payload payloads k = take 1000 (drop (k % 61 * 1000) payloads)

-- n turns from number k on
unfoldable pub turns : (ℕ → Run → Run) → ℕ → ℕ → Run → Run
turns go zero k x = x
turns go (suc n) k x = turns go n (k + 1) (go k x)

abbrev pub chains : List ℕ → List (List ℕ) → Run → Run
chains payloads headers x = turns (λ k. turn (timed_payload payloads k) (slice_index_or headers k [])) (length headers) 0 x

-- what is said and left at the end: the sum, how many messages are live and their bits; and the memory, with how much of its arena
-- is used
pub record Ends (x : Run) (out : List ℕ) (m : HeldMemory) (output : List ℕ) (used : ℕ) : Type 0 where
  pub said : out ≡ x.sum ∷ x.accumulator.active ∷ x.accumulator.total_buffered_bits ∷ []
  pub leaves : m ≡ x.memory
  pub writes : output ≡ x.output
  pub goes_on : Using x.accumulator m used
