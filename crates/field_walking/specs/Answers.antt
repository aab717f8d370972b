-- Each answer of the code in the paper's terms.
use Rattle.std.specs.Prelude.{ℕ, List, Result, Ok, Err}
use Rattle.bitio_window.specs.declared.Window.{Window}
use Rattle.bitio_window.specs.Refusals.{Refusal, paper, list_full, unresolved}
use Rattle.bitio_window.specs.Parse.{Answer, got, refused}
use Rattle.field_walking.specs.declared.FieldError.{FieldError}
use Rattle.field_walking.specs.declared.Stop.{Stop}
use Rattle.field_walking.specs.declared.Walk.{Walk}
use Rattle.field_walking.specs.Walks as W

-- the paper's number and values for each case
abbrev pub field_paper : FieldError → Refusal
field_paper (FieldError.Bits e) = paper e
field_paper (FieldError.RecordListFull p) = list_full p
field_paper FieldError.UnresolvedFunctionCount = unresolved

abbrev pub stop_answer : Result Stop FieldError → Window → Answer W.Stop
stop_answer (Ok Stop.Ended) w = got W.ended w
stop_answer (Ok (Stop.ClassNetCacheTail n)) w = got (W.tail n) w
stop_answer (Ok (Stop.Abandoned n)) w = got (W.abandoned n) w
stop_answer (Err e) w = refused (field_paper e) w

-- what a walk answers, how many records it wrote, where it leaves the reader, and what the list then holds
abbrev pub walk_told : Result Stop FieldError → ℕ → Window → List (List ℕ) → W.Walked
walk_told stop count w places = record { places = places; count = count; answer = stop_answer stop w }

abbrev pub of_walk : Walk → Window → List (List ℕ) → W.Walked
of_walk r = walk_told r.stop r.count
