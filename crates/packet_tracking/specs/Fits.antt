-- What the test of the lent tables leaves true of one of them: what `inner` requires.
use Rattle.std.specs.Prelude.{ℕ, ◌≤◌, ◌≡◌, true, List, length, take}
use Rattle.tables.specs.Columns.{ascending}
use Rattle.types.specs.Types.{most_channels}

pub record TableFits (limit live : ℕ) (channels : List ℕ) : Type 0 where
  pub few : limit ≤ most_channels
  pub live_fits : live ≤ limit
  pub room : limit ≤ length channels
  pub ascends : ascending (take live channels) ≡ true

-- the same without a limit: what finding and removing a channel needs
pub record TableLive (live : ℕ) (channels : List ℕ) : Type 0 where
  pub few : live ≤ most_channels
  pub room : live ≤ length channels
  pub ascends : ascending (take live channels) ≡ true
