-- The two public walks: what comes before the records, and what is left after their end.
use Rattle.std.specs.Prelude.{ℕ, Bool, true, false, List, eqb, leb}
use Rattle.bitio_window.specs.declared.Window.{Window}
use Rattle.bitio_window.specs.Refusals.{unresolved}
use Rattle.bitio_window.specs.Parse.{Answer, got, refused, ◌>>◌, refuse_if}
use Rattle.bitio_window.specs.Reads.{sound, read_bit}
use Rattle.bitio_window.specs.Windows.{moved_to_end}
use Rattle.field_walking.specs.Records.{bits_left, rep_layout, class_net_cache}
use Rattle.field_walking.specs.Walks.{Stop, ended, tail, abandoned, Walked, stopped, walked}

-- what comes before the records; a refusal there leaves the list as it was
abbrev pub from : {A : Type 0} → List (List ℕ) → Answer A → (Window → Walked) → Walked
from ps (refused e u) on = stopped ps (refused e u)
from ps (got a u) on = on u

unfoldable pub parse_class_net_cache : ℕ → List ℕ → List (List ℕ) → Window → Walked
parse_class_net_cache count d ps w = from ps ((sound >> refuse_if (eqb count 0) unresolved) d w) (walked (class_net_cache count) d ps)

-- Bits after the end are the class net cache's: retained for it, or skipped.
abbrev pub left_over : Bool → Bool → Window → Answer Stop
left_over true retain u = got ended u
left_over false true u = got (tail (bits_left u)) u
left_over false false u = got (tail (bits_left u)) (moved_to_end u)

abbrev pub settled_walk : Bool → Answer Stop → Answer Stop
settled_walk retain (got ended u) = left_over (leb u.length u.position.0) retain u
settled_walk retain (got (tail n) u) = got (tail n) u
settled_walk retain (got (abandoned n) u) = got (abandoned n) u
settled_walk retain (refused e u) = refused e u

abbrev pub settle : Bool → Walked → Walked
settle retain x = record { places = x.places; count = x.count; answer = settled_walk retain x.answer }

-- "one ignored bit"
unfoldable pub parse_rep_layout : Bool → List ℕ → List (List ℕ) → Window → Walked
parse_rep_layout retain d ps w = from ps (read_bit d w) (λ u. settle retain (walked rep_layout d ps u))
