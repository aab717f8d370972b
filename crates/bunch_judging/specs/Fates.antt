-- How a fragment is judged: "active limit; sequence; zero bits; alignment; buffered limit; append; error at the final".
use Rattle.std.specs.Prelude.{ℕ, ◌%◌, Bool, true, false, not, ◌&&◌, ◌||◌, cond, eqb}
use Rattle.std.specs.Int.{w32}
use mir.Val.{of_z, bool_byte}
use Rattle.types.specs.declared.PartialSequenceKind.{PartialSequenceKind}
use Rattle.types.specs.declared.RawBunchHeader.{RawBunchHeader}
use Rattle.tables.specs.Tables.{Found, none, found}
use Rattle.types.specs.Continuing.{continues}
use Rattle.bunch_judging.specs.declared.PartialDiscardCause.{PartialDiscardCause}
use Rattle.bunch_judging.specs.declared.PartialResourceLimit.{PartialResourceLimit}
use Rattle.bunch_judging.specs.declared.Fate.{Fate}
use Rattle.bunch_judging.specs.Held.{Held}

abbrev pub sequence_word : RawBunchHeader → ℕ
sequence_word h = of_z w32 h.ch_sequence

-- "Continuing means previous + 1, or for unreliable also equal; reliability must agree."
unfoldable pub follows : ℕ → Bool → RawBunchHeader → Bool
follows sequence reliable h = continues (sequence, bool_byte reliable) h.b_reliable (sequence_word h)

-- an initial over a message that is not finished; "Calling an initial over a finished, untaken message an error: it is displaced,
-- no error counted"
unfoldable pub overlaps : Found Held → Bool → Bool
overlaps none initial = false
overlaps (found m) initial = initial && not m.finished

-- "error at the final": of a fragment that joins its message, with or without the error flag after the sequence test
unfoldable pub ending : Bool → Bool → Fate
ending true true = Fate.Falls
ending true false = Fate.Finishes
ending false error = Fate.Joins

-- "alignment; buffered limit; append"
unfoldable pub weighed : Bool → Bool → Bool → Bool → Fate
weighed true over final error = Fate.Fails (PartialDiscardCause.Sequence PartialSequenceKind.NonByteAlignedFragment)
weighed false true final error = Fate.Fails (PartialDiscardCause.Resource PartialResourceLimit.BufferedBits)
weighed false false final error = ending final error

-- after the sequence test: "zero bits", which neither alignment nor the limit concerns
unfoldable pub admitted : Bool → Bool → Bool → ℕ → Fate
admitted over final error bits = cond (eqb bits 0) (ending final error) (weighed (not final && not (eqb (bits % 8) 0)) over final error)

-- "sequence", of a fragment that is not initial
unfoldable pub continued : Bool → Found Held → RawBunchHeader → ℕ → Fate
continued over none h bits = Fate.Breaks PartialSequenceKind.MissingInitial
continued over (found m) h bits =
    cond m.finished (Fate.Breaks PartialSequenceKind.MissingInitial)
    (cond (follows m.sequence m.reliable h) (admitted over h.b_partial_final h.has_partial_error bits)
    (Fate.Breaks PartialSequenceKind.MismatchedContinuation))

-- "active limit": full where the channel holds nothing and every place is taken; over where its message with the payload, and all
-- others, pass the buffered limit
unfoldable pub fate : Bool → Bool → Found Held → RawBunchHeader → ℕ → Fate
fate full over m h bits =
    cond h.b_partial_initial
    (cond full Fate.TurnedAway (admitted over h.b_partial_final (h.has_partial_error || overlaps m h.b_partial_initial) bits))
    (continued over m h bits)
