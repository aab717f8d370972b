-- How a listing ends: by what was read and written, and the line on standard error that says so.
use Rattle.std.specs.Prelude.{◌≡◌, ℕ, ◌+◌, ◌%◌, ◌^◌, Bool, is_some, cond, List}
use Rattle.std.specs.Prelude.{[], ◌∷◌, ◌++◌, nat_lt, Option, Some, None, unwrap_or, Result, Ok, Err}
use Rattle.packet_log.specs.declared.VersionError.{VersionError}
use Rattle.log_lines.specs.Decimal.{decimal}
use Rattle.log_lines.specs.Lines.{spaced_fields, version_line, cut_line}
use Rattle.listing.specs.declared.inner.moved.Failure.{Failure}
use Rattle.listing.specs.declared.inner.output.Unwritten.{Unwritten}
use Rattle.listing.specs.declared.inner.outcome.Outcome.{Outcome}
use Rattle.listing.specs.Calls.{Transfer}

-- the byte of the log that was reached, and the error's number
abbrev pub read_failed : ℕ → ℕ → Failure → Outcome
read_failed left start f = Outcome.ReadFailed ((start + left) % 2 ^ 64) f.number

-- how many bytes of the listing are out, and the error's number
abbrev pub write_failed : ℕ → Unwritten → Outcome
write_failed written h = Outcome.WriteFailed ((written + h.bytes) % 2 ^ 64) h.error

-- "empty input gives X 0"
abbrev pub first_read : Transfer → Outcome
first_read (Ok n) = Outcome.CutAt 0
first_read (Err f) = read_failed 0 0 f

-- "Another version: V and the byte." None where the listing goes on.
abbrev pub opened : Result Unit VersionError → Transfer → Option Outcome
opened (Ok u) moved = None
opened (Err (VersionError.Other b)) moved = Some (Outcome.OtherVersion b)
opened (Err VersionError.Missing) moved = Some (first_read moved)

-- "A cut record: X and the byte offset of its start": a log that has no more bytes ends with a record, or in one.
abbrev pub after_bytes : ℕ → ℕ → ℕ → Option Outcome
after_bytes n left start = cond (nat_lt 0 n) None (cond (nat_lt 0 left) (Some (Outcome.CutAt start)) (Some (Outcome.Ended start)))

abbrev pub after_read : Transfer → ℕ → ℕ → Option Outcome
after_read (Ok n) left start = after_bytes n left start
after_read (Err f) left start = Some (read_failed left start f)

-- as it was, or a write failed
abbrev pub Concluded : Option Outcome → Option Outcome → Type 0
Concluded before (Some (Outcome.WriteFailed at error)) = Unit {0}
Concluded before None = before ≡ None
Concluded before (Some (Outcome.Ended n)) = before ≡ Some (Outcome.Ended n)
Concluded before (Some (Outcome.CutAt i)) = before ≡ Some (Outcome.CutAt i)
Concluded before (Some (Outcome.OtherVersion b)) = before ≡ Some (Outcome.OtherVersion b)
Concluded before (Some (Outcome.ReadFailed at error)) = before ≡ Some (Outcome.ReadFailed at error)

-- a listing that has ended takes no further turn
abbrev pub is_over : Option Outcome → Bool
is_over outcome = is_some outcome

-- what the listing has after its packets: "V and X end the listing."
abbrev pub last_line : Option Outcome → List ℕ
last_line (Some (Outcome.CutAt i)) = cut_line i
last_line (Some (Outcome.OtherVersion b)) = version_line b
last_line (Some (Outcome.Ended n)) = []
last_line (Some (Outcome.ReadFailed at error)) = []
last_line (Some (Outcome.WriteFailed at error)) = []
last_line None = []

-- the text of an error's number, that of 0 where it has none
abbrev pub error_text : Option ℕ → List ℕ
error_text error = decimal (unwrap_or error 0)

-- The line on standard error, a word and its numbers: `ended BYTES`, `cut OFFSET`, `version BYTE`, `read-failed OFFSET ERRNO`,
-- `write-failed BYTES ERRNO`.
abbrev pub outcome_line : Option Outcome → List ℕ
outcome_line None = []
outcome_line (Some (Outcome.Ended n)) = (101 ∷ 110 ∷ 100 ∷ 101 ∷ 100 ∷ []) ++ spaced_fields (decimal n ∷ [])
outcome_line (Some (Outcome.CutAt i)) = (99 ∷ 117 ∷ 116 ∷ []) ++ spaced_fields (decimal i ∷ [])
outcome_line (Some (Outcome.OtherVersion b)) = (118 ∷ 101 ∷ 114 ∷ 115 ∷ 105 ∷ 111 ∷ 110 ∷ []) ++ spaced_fields (decimal b ∷ [])
outcome_line (Some (Outcome.ReadFailed at error)) =
    (114 ∷ 101 ∷ 97 ∷ 100 ∷ 45 ∷ 102 ∷ 97 ∷ 105 ∷ 108 ∷ 101 ∷ 100 ∷ []) ++ spaced_fields (decimal at ∷ error_text error ∷ [])
outcome_line (Some (Outcome.WriteFailed at error)) =
    (119 ∷ 114 ∷ 105 ∷ 116 ∷ 101 ∷ 45 ∷ 102 ∷ 97 ∷ 105 ∷ 108 ∷ 101 ∷ 100 ∷ []) ++ spaced_fields (decimal at ∷ error_text error ∷ [])
