-- The walks of document 01's "Records" into two lent lists: their numbers, and a record for each.
use Rattle.std.specs.Prelude.{ℕ, true, false, List, ◌++◌, length, take, drop}
use Rattle.bitio_window.specs.declared.Window.{Window}
use Rattle.field_walking.specs.declared.Walk.{Walk}
use Rattle.field_walking.specs.Walks.{Walked}
use Rattle.field.specs.Walks.{parse_rep_layout, parse_class_net_cache}
use Rattle.field_walking.specs.Answers.{of_walk}
use Rattle.field_walking.specs.declared.FieldRecord.{FieldRecord}
use Rattle.field_records.specs.declared.Stream.{Stream}
use Rattle.field_records.specs.Records.{filled}

abbrev pub parse : Stream → List ℕ → List (List ℕ) → Window → Walked
parse Stream.RepLayout = parse_rep_layout false
parse Stream.RepLayoutContentBlock = parse_rep_layout true
parse (Stream.ClassNetCache count) = parse_class_net_cache count

-- the walk into the first n places; those behind them stay
abbrev pub on_first : ℕ → List (List ℕ) → (List (List ℕ) → Walked) → Walked
on_first n ps on =
    record { places = (on (take n ps)).places ++ drop n ps; count = (on (take n ps)).count; answer = (on (take n ps)).answer }

unfoldable pub walked_into : ℕ → Stream → List ℕ → List (List ℕ) → Window → Walked
walked_into n s d ps w = on_first n ps (λ qs. parse s d qs w)

-- what the list of records holds, and what became of the walk and its numbers
pub record ListedRecords : Type 0 where
  pub records : List FieldRecord
  pub walked : Walked

-- A record has a place where both lists have one. "first number lists, then a lent list of field records filled in order"
unfoldable pub listed_records : Stream → List ℕ → List FieldRecord → List (List ℕ) → Window → ListedRecords
listed_records s d rs ps w =
    let x : Walked = walked_into (length rs) s d ps w in
    record { records = filled x.count x.places rs; walked = x }

-- an answer of the code in these terms
abbrev pub of_lists : Walk → Window → List FieldRecord → List (List ℕ) → ListedRecords
of_lists r u rs ps = record { records = rs; walked = of_walk r u ps }
