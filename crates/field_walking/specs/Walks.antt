-- A walk: records one after another into a lent list, a place for each, up to where it stops.
use Rattle.std.specs.Prelude.{ℕ, zero, suc, List, [], ◌∷◌}
use Rattle.bitio_window.specs.declared.Window.{Window}
use Rattle.bitio_window.specs.Refusals.{place_of, list_full}
use Rattle.bitio_window.specs.Parse.{Answer, got, refused, Parse}
use Rattle.bitio_window.specs.Windows.{moved_to_end}
use Rattle.field_walking.specs.declared.FieldRecord.{FieldRecord}
use Rattle.field_walking.specs.Records.{Looked, ends, abandons, finds, bits_left}

-- at the end with nothing left, at the end with so many bits of the class net cache left, or with so many abandoned
pub data Stop : Type 0 where
  ended : Stop
  tail : ℕ → Stop
  abandoned : ℕ → Stop

-- what the list holds, how many records were written, and where the walk stopped or what it refused
pub record Walked : Type 0 where
  pub places : List (List ℕ)
  pub count : ℕ
  pub answer : Answer Stop

-- "its handle, its bit count and its payload's start, counted both ways"
abbrev pub record_numbers : FieldRecord → List ℕ
record_numbers r = r.handle ∷ r.bit_count ∷ r.in_window.0 ∷ r.in_packet.0 ∷ []

abbrev pub stopped : List (List ℕ) → Answer Stop → Walked
stopped ps a = record { places = ps; count = 0; answer = a }

abbrev pub with_record : List ℕ → Walked → Walked
with_record n x = record { places = n ∷ x.places; count = suc x.count; answer = x.answer }

-- A record goes to the first place, and the walk goes on with the others. "14 is given exactly when a complete further record
-- finds no place." "abandons from the record's start"
abbrev pub walked_on : List (List ℕ) → Window → Answer Looked → (List (List ℕ) → Window → Walked) → Walked
walked_on ps w (refused e u) on = stopped ps (refused e u)
walked_on ps w (got ends u) on = stopped ps (got ended u)
walked_on ps w (got abandons u) on = stopped ps (got (abandoned (bits_left w)) (moved_to_end u))
walked_on [] w (got (finds r) u) on = stopped [] (refused (list_full (place_of w)) w)
walked_on (p ∷ ps) w (got (finds r) u) on = with_record (record_numbers r) (on ps u)

-- The second argument only bounds the recursion and never runs out: each record reads at least eight bits, and any two bounds above
-- the bits that are left give the same walk (the law `any_bound` of proofs/Bounds.antt).
unfoldable pub walk : Parse Looked → ℕ → List ℕ → List (List ℕ) → Window → Walked
walk look zero d ps w = stopped ps (got ended w)
walk look (suc n) d ps w = walked_on ps w (look d w) (walk look n d)

abbrev pub walked : Parse Looked → List ℕ → List (List ℕ) → Window → Walked
walked look d ps w = walk look (suc (bits_left w)) d ps w
