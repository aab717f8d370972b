-- What the tests before a read leave true of the data and the window: what `inner` requires.
use Rattle.std.specs.Prelude.{ℕ, ◌*◌, ◌-◌, ◌≤◌, List, length}
use Rattle.bitio_window.specs.declared.Window.{Window}
use Rattle.bitio_window.specs.Reads.{largest_data}

pub record Sound (d : List ℕ) (w : Window) : Type 0 where
  pub data_within : length d ≤ largest_data
  pub window_within : w.length ≤ 8 * length d - w.start.0
  pub cursor_within : w.position.0 ≤ w.length
