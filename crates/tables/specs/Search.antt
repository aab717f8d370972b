-- What the steps of the search say to each other.
use Rattle.std.specs.Prelude.{List, ℕ, ◌+◌, ◌≤◌, ◌<◌, length, get_or}
use Rattle.types.specs.Types.{most_channels}

-- live channels, which ascend
pub record Rising (l : List ℕ) : Type 0 where
  pub few : length l ≤ most_channels
  pub rises : (i j : ℕ) → i < j → j < length l → get_or l i 0 < get_or l j 0

-- of the first `live` channels, r are below c, and those from r + room on are not
pub record Near (l : List ℕ) (live c r room : ℕ) : Type 0 where
  pub within : r ≤ live
  pub below : (k : ℕ) → k < r → get_or l k 0 < c
  pub above : (k : ℕ) → r + room ≤ k → k < live → c ≤ get_or l k 0
