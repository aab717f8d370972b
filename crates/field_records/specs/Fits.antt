-- What `inner` requires of a walk's numbers.
use Rattle.std.specs.Prelude.{ℕ, ◌≤◌, ◌<◌, ◌^◌, List, [], length, get_or}

-- a handle and a bit count of 32 bits
pub record RecordFits (p : List ℕ) : Type 0 where
  pub handle : get_or p 0 0 < 2 ^ 32
  pub bits : get_or p 1 0 < 2 ^ 32

-- n records, each with a place in both lists
pub record Ready (n room : ℕ) (ps : List (List ℕ)) : Type 0 where
  pub placed : n ≤ room
  pub written : n ≤ length ps
  pub fits : (i : ℕ) → i < n → RecordFits (get_or ps i [])
