-- The numbers of sound memory at a slot: what the indices and sums of an edit ask.
use Prim.Native.Nat.{ℕ, suc, ◌+◌, ◌*◌, ◌≤◌, ◌<◌}
use mathlib.Core.Path.{◌≡◌, refl}
use mathlib.Core.List.{[]}
use native.Mathlib.Omega.{arith}
use lib.ListN.{length, get_or, take}
use Rattle.std.specs.Prelude.{Ok}
use Rattle.tables.specs.Tables.{slot_of}
use Rattle.bunch_places.proofs.Packed.{start_within}
use Rattle.bunch_held.specs.declared.Accumulator.{Accumulator}
use Rattle.bunch_held.specs.Memory.{HeldMemory, bits_in_place, size_of, size_all}
use Rattle.bunch_held.specs.Calls.{held_by}
use Rattle.bunch_held.proofs.Holding.{columns, bytes_fit, total_is, kept, starts, starts_next}
use Rattle.bunch_held.proofs.Laying.{bytes_few}
use Rattle.bunch_held.proofs.Edits.{packed, place_live, place_free, bits_removed}
use Rattle.bunch_settling.specs.Settling.{Using, Occupied, Vacant}

-- wherever the channel is
pub record Rooms (a : Accumulator) (m : HeldMemory) (used : ℕ) : Type 0 where
  pub few : a.active ≤ 4096
  pub channels_fit : a.active ≤ length m.channels
  pub places_fit : a.active ≤ length m.places
  pub used_fits : used ≤ length m.arena
  pub used_small : 8 * used ≤ a.total_buffered_bits + 7 * a.active
  pub total_small : a.total_buffered_bits ≤ 536870912

pub rooms : (a : Accumulator) (m : HeldMemory) (used : ℕ) → Using a m used → Rooms a m used
rooms a m used u =
    let s = u.stands in
    record {
      few = omega (arith, s);
      channels_fit = omega (arith, s);
      places_fit = omega (arith, s);
      used_fits = omega (arith, u.used_is, bytes_fit a m s);
      used_small = omega (arith, u.used_is, bytes_few (held_by a m) m (kept a m s).good, total_is a m s, (columns a m s).size);
      total_small = omega (arith, s);
    }

-- at an occupied slot
pub record Numbers (a : Accumulator) (m : HeldMemory) (used i start : ℕ) : Type 0 where
  pub wide : Rooms a m used
  pub live : i < a.active
  pub within : start + size_of (get_or m.places i []) ≤ used
  pub bits_within : bits_in_place (get_or m.places i []) ≤ a.total_buffered_bits

pub numbers : (a : Accumulator) (m : HeldMemory) (used c i start : ℕ) → Occupied a m used c i start → Numbers a m used i start
numbers a m used c i start o =
    let s = o.sound.stands in
    let l = place_live a m s c i o.slot in
    record {
      wide = rooms a m used o.sound;
      live = l;
      within = omega (arith, o.start_is, o.sound.used_is, starts_next a m s i l, start_within (packed a m) (suc i));
      bits_within = omega (arith, bits_removed a m s c i o.slot);
    }

-- where the channel's slot was found
pub spot : (a : Accumulator) (m : HeldMemory) (used : ℕ) → Using a m used → (c i : ℕ) → slot_of c (take a.active m.channels) ≡ Ok i → Numbers a m used i (size_all (take i m.places))
spot a m used u c i slot = numbers a m used c i (size_all (take i m.places)) (record { sound = u; slot = slot; start_is = refl })

-- at a vacant one
pub record FreeNumbers (a : Accumulator) (m : HeldMemory) (used i start : ℕ) : Type 0 where
  pub wide : Rooms a m used
  pub live : i ≤ a.active
  pub within : start ≤ used

pub free_numbers : (a : Accumulator) (m : HeldMemory) (used c i start : ℕ) → Vacant a m used c i start → FreeNumbers a m used i start
free_numbers a m used c i start o =
    let s = o.sound.stands in
    let l = place_free a m s c i o.slot in
    record {
      wide = rooms a m used o.sound;
      live = l;
      within = omega (arith, o.start_is, o.sound.used_is, starts a m s i l, start_within (packed a m) i);
    }
