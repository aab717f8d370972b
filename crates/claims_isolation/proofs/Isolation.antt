-- Demand 3's first sentence: both orders give each channel what it has by itself.
use Prim.Native.Nat.{ℕ}
use mathlib.Core.Path.{◌≡◌, refl, sym, ap, ◌∙◌}
use mathlib.Core.Bool.{true}
use mathlib.Core.List.{List}
use native.Mathlib.Omega.{arith}
use borrow.Author.Tests.{le-leb}
use Rattle.tables.specs.Columns.{ascending, beside}
use Rattle.tables.specs.Tables.{none, get}
use Rattle.bunch_held.specs.Memory.{HeldMemory, state_of, held_in, total}
use Rattle.bunch_held.specs.Sound.{fit, memory_sound, places_sound}
use Rattle.claims_isolation.specs.Runs.{Call, Lent, empty_lent, held_on, Among, CallInRange, payloads, WithinLimits}
use Rattle.claims_isolation.specs.Isolation.{SameLists, in_turn, Isolation, AsInTurn}
use Rattle.claims_isolation.proofs.Alone.{alone, held_alone}
use Rattle.claims_isolation.proofs.Apart.{Room, Apart, apart}
use Rattle.claims_isolation.proofs.Orders.{each_same, payloads_same, in_turn_same}

module _ (active buffered : ℕ) (m : HeldMemory) (fits : fit active buffered m ≡ true) where
  abbrev empty : Lent
  empty = empty_lent active buffered m

  nothing_is_held : (c : ℕ) → held_on c empty ≡ none
  unfolding get state_of held_in beside
  nothing_is_held c = refl

  opened_sound : memory_sound empty.accumulator m ≡ true
  unfolding memory_sound ascending places_sound
  opened_sound = rw (fits, le-leb 0 active (omega arith), le-leb 0 buffered (omega arith)) refl

  pub opened_room : (xs : List Call) (f : WithinLimits active buffered xs) → Room f.channels empty (payloads xs)
  unfolding state_of held_in beside total
  opened_room xs f = record { stays_sound = opened_sound; few = omega (arith, f.few); named = λ d i. nothing_is_held d; bits = omega (arith, f.bits) }

  opened_apart : (xs : List Call) → WithinLimits active buffered xs → (c : ℕ) → Apart empty xs c
  opened_apart xs f c = apart f.channels c empty xs f.among f.in_range (opened_room xs f)

  -- the other order fits too
  fits_same : (xs ys : List Call) → SameLists xs ys → WithinLimits active buffered xs → WithinLimits active buffered ys
  fits_same xs ys same f =
      record {
        channels = f.channels;
        few = f.few;
        among = each_same (Among f.channels) xs ys same f.among;
        bits = omega (arith, f.bits, payloads_same xs ys same);
        in_range = each_same CallInRange xs ys same f.in_range;
      }

pub isolation : Isolation
isolation active buffered m fits xs ys f same c =
    let one = opened_apart active buffered m fits xs f c in
    let two = opened_apart active buffered m fits ys (fits_same active buffered m fits xs ys same f) c in
    (one.same_said ∙ ap (alone _) (same c) ∙ sym two.same_said, one.same_held ∙ ap (held_alone _) (same c) ∙ sym two.same_held)

pub as_in_turn : AsInTurn
as_in_turn active buffered m fits xs f c = isolation active buffered m fits xs (in_turn f.channels xs) f (in_turn_same f.channels xs f.among) c
