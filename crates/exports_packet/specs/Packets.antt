-- A reading call's answer as 34 words, and an opening's as four.
use Rattle.std.specs.Prelude.{ℕ, List, [], ◌∷◌, ◌++◌, get_or}
use Rattle.bitio_window.specs.Parse.{Result, value, refusal}
use Rattle.packet_reading.specs.declared.RawPacketReader.{RawPacketReader}
use Rattle.packet_reading.specs.Packet.{Outcome, bunch, end, malformed}
use Rattle.packet_reading.specs.Answers.{ReadReply}
use Rattle.words.specs.Words.{header_words}
use Rattle.exports_words.specs.Words.{window_words}

-- a header's words and its window's
abbrev pub no_bunch : List ℕ
no_bunch = 0 ∷ 0 ∷ 0 ∷ 0 ∷ 0 ∷ 0 ∷ 0 ∷ 0 ∷ 0 ∷ 0 ∷ 0 ∷ 0 ∷ 0 ∷ 0 ∷ 0 ∷ 0 ∷ 0 ∷ 0 ∷ 0 ∷ 0 ∷ 0 ∷ 0 ∷ 0 ∷ []

-- 0 or the refusal's number, what the refusal returns, and which outcome
abbrev pub case_words : Result Outcome → List ℕ
case_words (value (bunch h w)) = 0 ∷ 0 ∷ 0 ∷ 0 ∷ []
case_words (value end) = 0 ∷ 0 ∷ 0 ∷ 1 ∷ []
case_words (value malformed) = 0 ∷ 0 ∷ 0 ∷ 2 ∷ []
case_words (refusal r) = r.number ∷ get_or r.returns 0 0 ∷ get_or r.returns 1 0 ∷ 0 ∷ []

abbrev pub outcome_words : Result Outcome → List ℕ
outcome_words (value (bunch h w)) = header_words h ++ window_words w
outcome_words (value end) = no_bunch
outcome_words (value malformed) = no_bunch
outcome_words (refusal r) = no_bunch

-- word 4 is the next cursor; 5 to 8 by how much the counts rise; 9 and 10 the live places; then the bunch
unfoldable pub bunch_words : ReadReply → List ℕ
bunch_words x =
    case_words x.answer
    ++ (x.next ∷ x.bunches ∷ x.malformed_packets ∷ x.partial_errors ∷ x.channel_limits ∷ x.live_sequences ∷ x.live_partials
    ∷ outcome_words x.answer)

-- 0 or the refusal's number; the limit and the live places
unfoldable pub reader_words : Result RawPacketReader → List ℕ
reader_words (value r) = 0 ∷ r.max_channels ∷ r.live_sequences ∷ r.live_partials ∷ []
reader_words (refusal r) = r.number ∷ 0 ∷ 0 ∷ 0 ∷ []
