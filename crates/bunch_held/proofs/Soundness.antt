-- What the test of the lent memory shows, and that memory of which that holds passes it.
use Prim.Native.Nat.{ℕ, ◌+◌, ◌*◌, ◌%◌, ◌^◌, ◌≤◌, ◌<◌}
use mathlib.Core.Path.{◌≡◌}
use mathlib.Core.Bool.{Bool, true, ◌&&◌, ◌||◌}
use mathlib.Core.List.{List}
use lib.Dec.{eqb, leb, ltb}
use lib.ListN.{length, get_or, take}
use borrow.Author.Tests.{leb-true, ltb-true, eqb-true, le-leb, lt-ltb, eq-eqb}
use Rattle.tables.specs.Columns.{ascending}
use Rattle.tables.proofs.Ascending.{both}
use Rattle.bunch_held.specs.declared.Accumulator.{Accumulator}
use Rattle.bunch_held.specs.Memory.{HeldMemory, bits_in_place}
use Rattle.bunch_held.specs.Sound.{fit, spare_zero, words_sound, place_sound, places_sound, memory_sound}
use Rattle.bunch_held.specs.State.{OpeningRules, Stands}

module _ (a : Accumulator) (m : HeldMemory) where
  pub opens : fit a.max_active a.max_buffered_bits m ≡ true → OpeningRules a m
  unfolding fit
  opens h =
      let v = both _ (leb (a.max_buffered_bits + 7 * a.max_active) (8 * length m.arena)) h in
      let w = both _ (leb a.max_active (length m.places)) v.0 in
      let x = both _ (leb a.max_active (length m.channels)) w.0 in
      let y = both (leb a.max_active 4096) (leb a.max_buffered_bits 536870912) x.0 in
      record {
        few = leb-true a.max_active 4096 y.0;
        bounded = leb-true a.max_buffered_bits 536870912 y.1;
        channels_room = leb-true a.max_active (length m.channels) x.1;
        places_room = leb-true a.max_active (length m.places) w.1;
        arena_room = leb-true (a.max_buffered_bits + 7 * a.max_active) (8 * length m.arena) v.1;
      }

  pub fits : OpeningRules a m → fit a.max_active a.max_buffered_bits m ≡ true
  unfolding fit
  fits o =
      rw (le-leb a.max_active 4096 o.few, le-leb a.max_buffered_bits 536870912 o.bounded, le-leb a.max_active (length m.channels) o.channels_room, le-leb a.max_active (length m.places) o.places_room, le-leb (a.max_buffered_bits + 7 * a.max_active) (8 * length m.arena) o.arena_room)

  -- the numbers, before a channel or a place is looked at
  pub record Counts : Type 0 where
    pub opens : OpeningRules a m
    pub live_fits : a.active ≤ a.max_active
    pub total_fits : a.total_buffered_bits ≤ a.max_buffered_bits

  abbrev pub counted : Bool
  counted = fit a.max_active a.max_buffered_bits m && leb a.active a.max_active && leb a.total_buffered_bits a.max_buffered_bits

  pub counts : counted ≡ true → Counts
  counts h =
      let v = both _ (leb a.total_buffered_bits a.max_buffered_bits) h in
      let w = both _ (leb a.active a.max_active) v.0 in
      record { opens = opens w.0; live_fits = leb-true a.active a.max_active w.1; total_fits = leb-true a.total_buffered_bits a.max_buffered_bits v.1 }

  pub stands : memory_sound a m ≡ true → Stands a m
  unfolding memory_sound
  stands h =
      let v = both counted (ascending (take a.active m.channels) && places_sound (take a.active m.places) m.arena a.total_buffered_bits) h in
      let w = both (ascending (take a.active m.channels)) (places_sound (take a.active m.places) m.arena a.total_buffered_bits) v.1 in
      let c = counts v.0 in
      record { opens = c.opens; live_fits = c.live_fits; total_fits = c.total_fits; ascends = w.0; places_are_sound = w.1 }

  pub passes : Stands a m → memory_sound a m ≡ true
  unfolding memory_sound
  passes s =
      rw (fits s.opens, le-leb a.active a.max_active s.live_fits, le-leb a.total_buffered_bits a.max_buffered_bits s.total_fits, s.ascends, s.places_are_sound)

-- a place's words, and its message's bytes
pub record PlaceStands (p bytes : List ℕ) : Type 0 where
  pub words : length p ≡ 24
  pub finished_flag : get_or p 1 0 ≤ 1
  pub reliable_flag : get_or p 2 0 ≤ 1
  pub sequence_fits : get_or p 3 0 < 2 ^ 32
  pub aligned : (eqb (get_or p 1 0) 1 || eqb (bits_in_place p % 8) 0) ≡ true
  pub spare : spare_zero (bits_in_place p) bytes ≡ true

module _ (p bytes : List ℕ) where
  pub place_stands : place_sound p bytes ≡ true → PlaceStands p bytes
  unfolding place_sound
  place_stands h =
      let u = both (words_sound p) (spare_zero (bits_in_place p) bytes) h in
      let v = both _ (eqb (get_or p 1 0) 1 || eqb (bits_in_place p % 8) 0) u.0 in
      let w = both _ (ltb (get_or p 3 0) (2 ^ 32)) v.0 in
      let x = both _ (leb (get_or p 2 0) 1) w.0 in
      let y = both (eqb (length p) 24) (leb (get_or p 1 0) 1) x.0 in
      record {
        words = eqb-true (length p) 24 y.0;
        finished_flag = leb-true (get_or p 1 0) 1 y.1;
        reliable_flag = leb-true (get_or p 2 0) 1 x.1;
        sequence_fits = ltb-true (get_or p 3 0) (2 ^ 32) w.1;
        aligned = v.1;
        spare = u.1;
      }

  pub place_passes : PlaceStands p bytes → place_sound p bytes ≡ true
  unfolding place_sound
  place_passes s =
      rw (eq-eqb (length p) 24 s.words, le-leb (get_or p 1 0) 1 s.finished_flag, le-leb (get_or p 2 0) 1 s.reliable_flag, lt-ltb (get_or p 3 0) (2 ^ 32) s.sequence_fits, s.aligned, s.spare)
