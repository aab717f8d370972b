-- The public calls, test by test.
use Prim.Native.Nat.{ℕ, ◌+◌, ◌*◌, ◌/◌, ◌≤◌, ◌<◌}
use mathlib.Core.Path.{◌≡◌}
use mathlib.Core.Bool.{Bool, true, false}
use mathlib.Core.List.{List, [], ◌∷◌}
use lib.Dec.{ltb}
use lib.ListN.{length}
use native.Mathlib.Omega.{arith}
use borrow.Author.Tests.{le-ltb, lt-ltb, ltb-false}
use Rattle.bitio_window.specs.Refusals.{beyond, payload_too_long, payload_short, unwritable, no_room}
use Rattle.bitio_window.specs.Parse.{value}
use Rattle.types.specs.declared.RawBunchHeader.{RawBunchHeader}
use Rattle.writer_spelling.specs.Bits.{put_bits}
use Rattle.writer_spelling.specs.Header.{bunch_bits, writable}
use Rattle.writer.specs.Answers.{room_of, bits_with, write_refuses, appended, write_bunch, close_packet}

module _ (h : RawBunchHeader) (payload : List ℕ) (count : ℕ) (p : List ℕ) (at : ℕ) where
  pub five : ltb (8 * length p) at ≡ true → write_refuses (beyond at (8 * length p)) p ≡ write_bunch h payload count p at
  unfolding write_bunch
  five t = rw t

  module _ (inside : ltb (8 * length p) at ≡ false) where
    pub sixteen : writable h ≡ false → write_refuses unwritable p ≡ write_bunch h payload count p at
    unfolding write_bunch
    sixteen t = rw (inside, t)

    module _ (can : writable h ≡ true) where
      pub eleven : 16383 < count → write_refuses (payload_too_long count) p ≡ write_bunch h payload count p at
      unfolding write_bunch
      eleven t = rw (inside, can, lt-ltb 16383 count t)

      module _ (few : count ≤ 16383) where
        pub twelve : ltb (8 * length payload) count ≡ true → write_refuses (payload_short count) p ≡ write_bunch h payload count p at
        unfolding write_bunch
        twelve t = rw (inside, can, le-ltb 16383 count few, t)

        pub appends : ltb (8 * length payload) count ≡ false
            → appended (bunch_bits h payload count) p at (at + length (bunch_bits h payload count)) ≡ write_bunch h payload count p at
        unfolding write_bunch
        appends t = rw (inside, can, le-ltb 16383 count few, t)

module _ (p : List ℕ) (at : ℕ) where
  pub close_five : ltb (8 * length p) at ≡ true → write_refuses (beyond at (8 * length p)) p ≡ close_packet p at
  unfolding close_packet
  close_five t = rw t

  pub close_adds : ltb (8 * length p) at ≡ false → appended (true ∷ []) p at (8 * (at / 8 + 1)) ≡ close_packet p at
  unfolding close_packet
  close_adds t = rw t

-- with room for the bits, and without
module _ (bits : List Bool) (p : List ℕ) (at to : ℕ) where
  pub seventeen : ltb (room_of p) (at + length bits) ≡ true → write_refuses (no_room (bits_with at (length bits))) p ≡ appended bits p at to
  unfolding appended
  seventeen t = rw t

  pub puts : ltb (room_of p) (at + length bits) ≡ false → record { answer = value to; packet = put_bits p at bits } ≡ appended bits p at to
  unfolding appended
  puts t = rw t

pub there : (p : List ℕ) (bits : ℕ) → ltb (room_of p) bits ≡ false → (bits ≤ 8 * length p) × (bits ≤ 524280)
there p bits t = let h : bits ≤ room_of p = ltb-false (room_of p) bits t in (omega arith, omega arith)
