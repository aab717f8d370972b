-- The pass over the places: each way of a turn, and the tests of a place and of the room.
use mathlib.Core.Path.{◌≡◌, refl, ◌∙◌}
use mathlib.Core.Bool.{Bool, true, false, ◌&&◌}
use mathlib.Core.List.{List, []}
use Prim.Native.Nat.{ℕ, suc, ◌+◌, ◌*◌, ◌-◌, ◌/◌, ◌%◌, ◌^◌, ◌≤◌, ◌<◌}
use native.Mathlib.Nat.{zero-div}
use native.Mathlib.Omega.{arith}
use lib.Dec.{eqb, leb}
use lib.ListN.{length, get_or, take, drop, length-take, get_or-eq_default}
use lib.Seq.{drop-cons, drop-length, drop-drop, get_or-take, get_or-drop}
use borrow.Author.Tests.{leb-true, leb-false, le-leb, lt-leb}
use Rattle.bunch_places.specs.Bytes.{bytes_of}
use Rattle.bunch_held.specs.Memory.{bits_in_place, size_of}
use Rattle.bunch_held.specs.Sound.{spare_zero, place_sound, places_sound}

-- as many bytes as the bits want
pub room : (bits bytes : ℕ) → leb ((bits + 7) / 8) bytes ≡ leb bits (8 * bytes)
room bits bytes = go (leb bits (8 * bytes)) refl
  where
    go : (b : Bool) → leb bits (8 * bytes) ≡ b → leb ((bits + 7) / 8) bytes ≡ b
    go true e = le-leb ((bits + 7) / 8) bytes (omega (arith, leb-true bits (8 * bytes) e))
    go false e = lt-leb ((bits + 7) / 8) bytes (omega (arith, leb-false bits (8 * bytes) e))

module _ (arena : List ℕ) (start bits : ℕ) where
  abbrev message : List ℕ
  message = take (bytes_of bits) (drop start arena)

  -- no byte has spare bits
  pub no_spare : bits % 8 ≡ 0 → spare_zero bits message ≡ true
  no_spare e =
      let l : length message ≤ bits / 8 = rw length-take (omega arith) in
      rw (get_or-eq_default message 0 l, zero-div (2 ^ (bits % 8))) refl

  pub some_spare : (bits % 8 ≡ 0 → ⊥) → eqb (get_or arena (start + bits / 8) 0 / 2 ^ (bits % 8)) 0 ≡ spare_zero bits message
  some_spare n =
      let l : bits / 8 < bytes_of bits = omega (arith, n) in
      rw (get_or-take (bytes_of bits) (drop start arena) (bits / 8) 0 l, get_or-drop start arena (bits / 8) 0) refl

module _ (ps : List (List ℕ)) (arena : List ℕ) (i start left : ℕ) (h : i < length ps) where
  abbrev p : List ℕ
  p = get_or ps i []

  abbrev from_here : Bool
  from_here = places_sound (drop i ps) (drop start arena) left

  begins : from_here ≡ (leb (bits_in_place p) left && place_sound p (take (size_of p) (drop start arena)) && places_sound (drop (suc i) ps) (drop (size_of p) (drop start arena)) (left - bits_in_place p))
  unfolding places_sound
  begins = rw (drop-cons ps i [] h) refl

  pub too_many : left < bits_in_place p → from_here ≡ false
  too_many f = begins ∙ rw (lt-leb (bits_in_place p) left f) refl

  module _ (few : bits_in_place p ≤ left) where
    pub one_unsound : place_sound p (take (size_of p) (drop start arena)) ≡ false → from_here ≡ false
    one_unsound e = begins ∙ rw (le-leb (bits_in_place p) left few, e) refl

    pub one_sound : (j next : ℕ) → j ≡ suc i → next ≡ start + size_of p → place_sound p (take (size_of p) (drop start arena)) ≡ true
        → from_here ≡ places_sound (drop j ps) (drop next arena) (left - bits_in_place p)
    one_sound j next e n s = begins ∙ rw (le-leb (bits_in_place p) left few, s, drop-drop (size_of p) start arena, e, n) refl

pub passed : (ps : List (List ℕ)) (arena : List ℕ) (i left : ℕ) → i ≡ length ps → places_sound (drop i ps) arena left ≡ eqb left 0
unfolding places_sound
passed ps arena i left e = rw (e, drop-length ps) refl
