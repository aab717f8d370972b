-- What a fate comes to for messages: the one that the channel holds afterwards, and those displaced, in order.
use Rattle.std.specs.Prelude.{ℕ, ◌+◌, Bool, true, false, cond, List, [], ◌∷◌, ◌++◌, eqb, unwrap_or}
use Rattle.types.specs.declared.PartialSequenceKind.{PartialSequenceKind}
use Rattle.types.specs.declared.RawBunchHeader.{RawBunchHeader}
use Rattle.tables.specs.Tables.{Found, none, found}
use Rattle.words.specs.Words.{header_words}
use Rattle.bunch_places.specs.Bytes.{payload_bytes}
use Rattle.bunch_judging.specs.declared.PartialDiscardCause.{PartialDiscardCause}
use Rattle.bunch_judging.specs.declared.Fate.{Fate}
use Rattle.bunch_judging.specs.Held.{Message, message_of, Held, Fragment, Displaced, displaced_of}
use Rattle.bunch_judging.specs.Fates.{sequence_word}
use Rattle.bunch_judging.specs.Headers.{after_test}

-- what an initial replaces, and what any other fragment joins
abbrev pub replaced_by : Bool → Found Held → Found Held
replaced_by initial m = cond initial m none

abbrev pub joined_by : Bool → Found Held → Found Held
joined_by initial m = cond initial none m

-- "A message taken, displaced or drained carries the initial fragment's header as it stood after the sequence test"
abbrev pub fresh : RawBunchHeader → Held
fresh h = record { sequence = sequence_word h; reliable = h.b_reliable; finished = false; message = message_of (header_words h) 0 [] }

-- a message with a fragment's sequence, before its bits; its own where it joins none
abbrev pub base : Found Held → RawBunchHeader → Held
base none h = fresh h
base (found m) h = record { sequence = sequence_word h; reliable = m.reliable; finished = false; message = m.message }

abbrev pub joined_to : Message → Fragment → Message
joined_to m f = message_of m.header (m.bits + f.bits) (m.bytes ++ payload_bytes f.bits f.payload)

abbrev pub grown : Bool → Held → Fragment → Held
grown finished m f = record { sequence = m.sequence; reliable = m.reliable; finished = finished; message = joined_to m.message f }

abbrev pub joining : Found Held → Fragment → Held
joining m f = base (joined_by f.header.b_partial_initial m) (after_test m f.header)

unfoldable pub held_after : Fate → Found Held → Fragment → Found Held
held_after Fate.TurnedAway m f = m
held_after (Fate.Breaks k) m f = none
held_after (Fate.Fails c) m f = none
held_after Fate.Joins m f = found (grown false (joining m f) f)
held_after Fate.Finishes m f = found (grown true (joining m f) f)
held_after Fate.Falls m f = none

-- ## What is displaced

abbrev pub displaced_by : PartialDiscardCause → Found Held → List Displaced
displaced_by c none = []
displaced_by c (found m) = displaced_of m.message c ∷ []

abbrev pub replaced : Found Held → Fragment → List Displaced
replaced m f =
    displaced_by (PartialDiscardCause.Sequence PartialSequenceKind.OverlappingInitial) (replaced_by f.header.b_partial_initial m)

-- the message with an erring final
abbrev pub fallen : Found Held → Fragment → Displaced
fallen m f =
    displaced_of (joined_to (joining m f).message f)
    (PartialDiscardCause.Sequence (unwrap_or (after_test m f.header).partial_error_kind PartialSequenceKind.OverlappingInitial))

-- "a valid non-initial final of zero bits … reports none of its bits"; nor is an initial one's empty start displaced
unfoldable pub displaced : Fate → Found Held → Fragment → List Displaced
displaced Fate.TurnedAway m f = []
displaced (Fate.Breaks k) m f = displaced_by (PartialDiscardCause.Sequence k) m
displaced (Fate.Fails c) m f = replaced m f ++ displaced_by c (joined_by f.header.b_partial_initial m)
displaced Fate.Joins m f = replaced m f
displaced Fate.Finishes m f = replaced m f
displaced Fate.Falls m f = replaced m f ++ cond (eqb f.bits 0) [] (fallen m f ∷ [])

unfoldable pub bits_of_all : List Displaced → ℕ
bits_of_all [] = 0
bits_of_all (x ∷ xs) = x.message.bits + bits_of_all xs

abbrev pub bits_held : Found Held → ℕ
bits_held none = 0
bits_held (found m) = m.message.bits

unfoldable pub bytes_of_all : List Displaced → List ℕ
bytes_of_all [] = []
bytes_of_all (x ∷ xs) = x.message.bytes ++ bytes_of_all xs
