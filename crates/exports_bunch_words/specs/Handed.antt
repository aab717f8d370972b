-- What taking and retiring answer, as 26 words.
use Rattle.std.specs.Prelude.{ℕ, List, [], ◌∷◌, ◌++◌, get_or}
use Rattle.words.specs.Words.{header_words}
use Rattle.bunch_held.specs.Steps.{BunchAnswer, refused, judged, handed, nothing}
use Rattle.bunch_held.specs.Calls.{BunchReply}

-- 0 or the refusal's number, and what the refusal returns
abbrev pub said_words : BunchAnswer → List ℕ
said_words (refused r) = r.number ∷ get_or r.returns 0 0 ∷ []
said_words (judged r ds) = 0 ∷ 0 ∷ []
said_words (handed t) = 0 ∷ 0 ∷ []
said_words nothing = 0 ∷ 0 ∷ []

abbrev pub no_message : List ℕ
no_message = 0 ∷ 0 ∷ 0 ∷ 0 ∷ 0 ∷ 0 ∷ 0 ∷ 0 ∷ 0 ∷ 0 ∷ 0 ∷ 0 ∷ 0 ∷ 0 ∷ 0 ∷ 0 ∷ 0 ∷ 0 ∷ 0 ∷ 0 ∷ 0 ∷ 0 ∷ []

-- 1, a message's header and how many bits
abbrev pub message_words : BunchAnswer → List ℕ
message_words (refused r) = no_message
message_words (judged r ds) = no_message
message_words (handed t) = 1 ∷ (header_words t.header ++ (t.bits ∷ []))
message_words nothing = no_message

-- words 2 and 3 are how many places and bits then count
unfoldable pub handed_words : BunchReply → List ℕ
handed_words x = said_words x.answer ++ (x.accumulator.active ∷ x.accumulator.total_buffered_bits ∷ message_words x.answer)
