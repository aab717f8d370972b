-- A lent list of field records: a place of the walk's numbers as a record, and the list with its first places written.
use Rattle.std.specs.Prelude.{ℕ, List, ◌++◌, map, get_or, take, drop}
use Rattle.field_walking.specs.declared.FieldRecord.{FieldRecord}

-- the way back from `record_numbers`
abbrev pub record_of : List ℕ → FieldRecord
record_of p =
    record {
      handle = get_or p 0 0;
      bit_count = get_or p 1 0;
      in_window = record { 0 = get_or p 2 0 };
      in_packet = record { 0 = get_or p 3 0 };
    }

-- "written one place per record", in order; the other places stay
unfoldable pub filled : ℕ → List (List ℕ) → List FieldRecord → List FieldRecord
filled n ps rs = map record_of (take n ps) ++ drop n rs
