-- The answer to a fragment by its fate, but for what is displaced: the Rust's `PartialBunchResult`, and by how much its counts rise.
use Rattle.std.specs.Prelude.{ℕ, ◌+◌, Bool, true, false, ◌||◌, cond, eqb, Option, Some, None}
use mir.Val.{bool_byte}
use Rattle.types.specs.declared.PartialSequenceKind.{PartialSequenceKind}
use Rattle.types.specs.declared.RawBunchHeader.{RawBunchHeader}
use Rattle.tables.specs.Tables.{Found}
use Rattle.bunch_judging.specs.declared.PartialDiscardCause.{PartialDiscardCause}
use Rattle.bunch_judging.specs.declared.PartialResourceLimit.{PartialResourceLimit}
use Rattle.bunch_judging.specs.declared.PartialBunchResult.{PartialBunchResult}
use Rattle.bunch_judging.specs.declared.Fate.{Fate}
use Rattle.bunch_judging.specs.Held.{Held, Fragment}
use Rattle.bunch_judging.specs.Fates.{overlaps}
use Rattle.bunch_judging.specs.Headers.{flagged, erring, after_test}
use Rattle.bunch_judging.specs.Messages.{displaced, bits_of_all}

abbrev pub is_overlapping : Option PartialSequenceKind → Bool
is_overlapping None = false
is_overlapping (Some PartialSequenceKind.MissingInitial) = false
is_overlapping (Some PartialSequenceKind.OverlappingInitial) = true
is_overlapping (Some PartialSequenceKind.MismatchedContinuation) = false
is_overlapping (Some PartialSequenceKind.NonByteAlignedFragment) = false

abbrev pub cause_kind : PartialDiscardCause → Option PartialSequenceKind
cause_kind (PartialDiscardCause.Sequence k) = Some k
cause_kind (PartialDiscardCause.Resource l) = None

abbrev pub limit_of : PartialDiscardCause → Option PartialResourceLimit
limit_of (PartialDiscardCause.Sequence k) = None
limit_of (PartialDiscardCause.Resource l) = Some l

-- a fragment that does not join
abbrev pub refused : RawBunchHeader → Option PartialResourceLimit → Option PartialSequenceKind → Bool → ℕ → ℕ → PartialBunchResult
refused h limit kind overlapping discarded errors =
    record {
      header = h;
      should_process = false;
      resource_limit = limit;
      discarded_bits = discarded;
      error_kind = kind;
      overlapping_initial = overlapping;
      errors = errors;
      fragments = 0;
      completed = 0;
    }

abbrev pub turned_away : RawBunchHeader → ℕ → PartialBunchResult
turned_away h bits = refused (erring h.partial_error_kind h) (Some PartialResourceLimit.ActiveStates) None false bits 1

abbrev pub broken : PartialSequenceKind → RawBunchHeader → ℕ → PartialBunchResult
broken k h discarded = refused (erring (Some k) h) None (Some k) (is_overlapping (Some k)) discarded 1

-- "Setting the header's kind when alignment refuses: only the result carries it."
abbrev pub failed : PartialDiscardCause → RawBunchHeader → ℕ → ℕ → PartialBunchResult
failed c h discarded errors =
    refused (erring h.partial_error_kind h) (limit_of c) (cause_kind c) (is_overlapping h.partial_error_kind) discarded errors

-- One that does; with no bits the result has no kind.
abbrev pub accepted : RawBunchHeader → Bool → Bool → ℕ → ℕ → PartialBunchResult
accepted h zero done discarded errors =
    record {
      header = flagged h.has_partial_error h.partial_error_kind (h.is_partial_completed || done) h;
      should_process = done;
      resource_limit = None;
      discarded_bits = discarded;
      error_kind = cond zero None h.partial_error_kind;
      overlapping_initial = is_overlapping h.partial_error_kind;
      errors = errors;
      fragments = 1;
      completed = bool_byte done;
    }

abbrev pub overlap_errors : Found Held → Fragment → ℕ
overlap_errors m f = bool_byte (overlaps m f.header.b_partial_initial)

-- by its fate, with the message done or not
abbrev pub accepted_by : Fate → Bool → Found Held → Fragment → PartialBunchResult
accepted_by x done m f = accepted (after_test m f.header) (eqb f.bits 0) done (bits_of_all (displaced x m f)) (overlap_errors m f)

unfoldable pub result_of : Fate → Found Held → Fragment → PartialBunchResult
result_of Fate.TurnedAway m f = turned_away f.header f.bits
result_of (Fate.Breaks k) m f = broken k f.header (bits_of_all (displaced (Fate.Breaks k) m f) + f.bits)
result_of (Fate.Fails c) m f =
    failed c (after_test m f.header) (bits_of_all (displaced (Fate.Fails c) m f) + f.bits) (overlap_errors m f + 1)
result_of Fate.Joins m f = accepted_by Fate.Joins false m f
result_of Fate.Finishes m f = accepted_by Fate.Finishes true m f
result_of Fate.Falls m f = accepted_by Fate.Falls false m f
