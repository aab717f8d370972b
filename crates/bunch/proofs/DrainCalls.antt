-- The tests before a drain, each way of them, and what the places count for.
use Prim.Native.Nat.{ℕ, ◌≤◌, ◌<◌}
use mathlib.Core.Path.{◌≡◌}
use mathlib.Core.Bool.{true, false}
use mathlib.Core.List.{List}
use lib.ListN.{length, take}
use borrow.Author.Tests.{lt-ltb, le-ltb}
use Rattle.bitio_window.specs.Refusals.{unsound, output_short, too_few_places}
use Rattle.bunch_held.specs.declared.Accumulator.{Accumulator}
use Rattle.bunch_held.specs.Memory.{HeldMemory, State, sum_of, bytes_all}
use Rattle.bunch_held.specs.Sound.{memory_sound}
use Rattle.bunch_held.specs.State.{Stands}
use Rattle.bunch_held.specs.Calls.{held_by}
use Rattle.bunch_held.proofs.Holding.{places_are, kept}
use Rattle.bunch.specs.Draining.{unfinished, drain_refuses, lists, drained}
use Rattle.bunch.specs.Shown.{shown_count, shown_size}
use Rattle.bunch.proofs.Unfinished.{counts_shown, sizes_shown}

module _ (a : Accumulator) (m : HeldMemory) where
  abbrev u : State
  u = unfinished (held_by a m)

  module _ (s : Stands a m) where
    pub messages_are : sum_of shown_count (take a.active m.places) ≡ length u
    messages_are = rw (places_are a m s) at (counts_shown (held_by a m))

    pub bytes_are : sum_of shown_size (take a.active m.places) ≡ length (bytes_all u)
    bytes_are = rw (places_are a m s) at (sizes_shown (held_by a m) (kept a m s).good)

  module _ (output : List ℕ) (list : List (List ℕ)) where
    pub ten : memory_sound a m ≡ false → drain_refuses unsound a output list ≡ drained a m output list
    unfolding drained
    ten s = rw s

    module _ (s : memory_sound a m ≡ true) where
      pub thirteen : length output < length (bytes_all u) → drain_refuses (output_short (length (bytes_all u))) a output list ≡ drained a m output list
      unfolding drained
      thirteen h = rw (s, lt-ltb (length output) (length (bytes_all u)) h)

      module _ (bytes_fit : length (bytes_all u) ≤ length output) where
        pub fourteen : length list < length u → drain_refuses (too_few_places (length u)) a output list ≡ drained a m output list
        unfolding drained
        fourteen h = rw (s, le-ltb (length output) (length (bytes_all u)) bytes_fit, lt-ltb (length list) (length u) h)

        pub all_listed : length u ≤ length list → lists u a output list ≡ drained a m output list
        unfolding drained
        all_listed h = rw (s, le-ltb (length output) (length (bytes_all u)) bytes_fit, le-ltb (length list) (length u) h)
