-- What adding a fragment answers, as 79 words.
use Rattle.std.specs.Prelude.{ℕ, List, [], ◌∷◌, ◌++◌, Option, Some, None}
use mir.Val.{bool_byte}
use Rattle.words.specs.Words.{kind_word, header_words}
use Rattle.bunch_judging.specs.declared.PartialResourceLimit.{PartialResourceLimit}
use Rattle.bunch_judging.specs.declared.PartialDiscardCause.{PartialDiscardCause}
use Rattle.bunch_judging.specs.declared.PartialBunchResult.{PartialBunchResult}
use Rattle.bunch_held.specs.Steps.{MessageOut, BunchAnswer, refused, judged, handed, nothing}
use Rattle.bunch_held.specs.Calls.{BunchReply}
use Rattle.exports_bunch_words.specs.Handed.{said_words}

abbrev pub limit_word : Option PartialResourceLimit → ℕ
limit_word None = 0
limit_word (Some PartialResourceLimit.ActiveStates) = 1
limit_word (Some PartialResourceLimit.BufferedBits) = 2

abbrev pub cause_word : PartialDiscardCause → ℕ
cause_word (PartialDiscardCause.Sequence k) = 0
cause_word (PartialDiscardCause.Resource l) = 1

abbrev pub cause_value : PartialDiscardCause → ℕ
cause_value (PartialDiscardCause.Sequence k) = kind_word (Some k)
cause_value (PartialDiscardCause.Resource l) = limit_word (Some l)

abbrev pub result_words : PartialBunchResult → List ℕ
result_words r =
    header_words r.header
    ++ (bool_byte r.should_process ∷ limit_word r.resource_limit ∷ r.discarded_bits ∷ kind_word r.error_kind
    ∷ bool_byte r.overlapping_initial ∷ r.errors ∷ r.fragments ∷ r.completed ∷ [])

abbrev pub displaced_words : MessageOut × PartialDiscardCause → List ℕ
displaced_words d = header_words d.0.header ++ (d.0.bits ∷ cause_word d.1 ∷ cause_value d.1 ∷ [])

-- no result's words, and no displaced message's
abbrev pub no_result : List ℕ
no_result = 0 ∷ 0 ∷ 0 ∷ 0 ∷ 0 ∷ 0 ∷ 0 ∷ 0 ∷ 0 ∷ 0 ∷ 0 ∷ 0 ∷ 0 ∷ 0 ∷ 0 ∷ 0 ∷ 0 ∷ 0 ∷ 0 ∷ 0 ∷ 0 ∷ 0 ∷ 0 ∷ 0 ∷ 0 ∷ 0 ∷ 0 ∷ 0 ∷ []

abbrev pub no_displaced : List ℕ
no_displaced = 0 ∷ 0 ∷ 0 ∷ 0 ∷ 0 ∷ 0 ∷ 0 ∷ 0 ∷ 0 ∷ 0 ∷ 0 ∷ 0 ∷ 0 ∷ 0 ∷ 0 ∷ 0 ∷ 0 ∷ 0 ∷ 0 ∷ 0 ∷ 0 ∷ 0 ∷ 0 ∷ []

-- how many are displaced, and the two; there are never more
abbrev pub displaced_all : List (MessageOut × PartialDiscardCause) → List ℕ
displaced_all [] = 0 ∷ (no_displaced ++ no_displaced)
displaced_all (d ∷ []) = 1 ∷ (displaced_words d ++ no_displaced)
displaced_all (d ∷ e ∷ ds) = 2 ∷ (displaced_words d ++ displaced_words e)

abbrev pub judged_words : BunchAnswer → List ℕ
judged_words (refused r) = no_result ++ displaced_all []
judged_words (judged r ds) = result_words r ++ displaced_all ds
judged_words (handed t) = no_result ++ displaced_all []
judged_words nothing = no_result ++ displaced_all []

-- words 2 and 3 are how many places and bits then count
unfoldable pub fragment_words : BunchReply → List ℕ
fragment_words x = said_words x.answer ++ (x.accumulator.active ∷ x.accumulator.total_buffered_bits ∷ judged_words x.answer)
