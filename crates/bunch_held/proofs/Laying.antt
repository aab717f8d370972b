-- A state within the limits, laid in memory that fits, is read back, and that memory is sound.
use Prim.Native.Nat.{ℕ, ◌+◌, ◌*◌, ◌-◌, ◌%◌, ◌≤◌}
use mathlib.Core.Path.{◌≡◌, refl, ◌∙◌}
use mathlib.Core.Bool.{Bool, true, false, ◌||◌}
use mathlib.Core.List.{List, [], ◌∷◌, ◌++◌, map, append_assoc}
use native.Mathlib.Omega.{arith}
use lib.Dec.{eqb}
use lib.ListN.{length, take, drop, length-map}
use lib.Seq.{take_all, take_at, drop_at}
use mir.Val.{bool_byte}
use borrow.Author.Tests.{le-leb, eq-eqb}
use Rattle.tables.specs.Columns.{laid, beside, ascending}
use Rattle.tables.specs.Tables.{channels, values}
use Rattle.tables.proofs.Columns.{take_laid, length_laid, beside_whole}
use Rattle.bunch_places.specs.Packed.{joined}
use Rattle.bunch_judging.specs.Held.{Held}
use Rattle.bunch_held.specs.declared.Accumulator.{Accumulator}
use Rattle.bunch_held.specs.Memory.{HeldMemory, State, place_words, bits_in_place, size_of, sum_of, bits_all, size_all, held_at, held_in, state_of, bytes_each, bytes_all, laid_in, total}
use Rattle.bunch_held.specs.Sound.{fit, places_sound, memory_sound}
use Rattle.bunch_held.specs.State.{OpeningRules, Stands, Good, AllGood, Kept}
use Rattle.bunch_held.specs.Calls.{held_by, counting}
use Rattle.bunch_held.proofs.Sums.{sizes_few}
use Rattle.bunch_held.proofs.Soundness.{PlaceStands, place_passes, opens, passes}
use Rattle.bunch_held.proofs.Holding.{bits_placed, sizes_placed}

-- ## A message

flag_kept : (b : Bool) → eqb (bool_byte b) 1 ≡ b
flag_kept true = refl
flag_kept false = refl

flag_small : (b : Bool) → bool_byte b ≤ 1
flag_small true = omega arith
flag_small false = omega arith

message_back : (h : Held) → held_at (place_words h) h.message.bytes ≡ h
unfolding place_words held_at
message_back h = rw (flag_kept h.reliable, flag_kept h.finished)

whole : (finished : Bool) (rest : ℕ) → (finished ≡ false → rest ≡ 0) → (eqb (bool_byte finished) 1 || eqb rest 0) ≡ true
whole true rest f = refl
whole false rest f = eq-eqb rest 0 (f refl)

message_stands : (h : Held) → Good h → PlaceStands (place_words h) h.message.bytes
unfolding place_words
message_stands h g =
    record {
      words = omega (arith, g.header_words);
      finished_flag = flag_small h.finished;
      reliable_flag = flag_small h.reliable;
      sequence_fits = g.sequence_fits;
      aligned = whole h.finished (h.message.bits % 8) g.aligned;
      spare = g.spare;
    }

message_sized : (h : Held) → Good h → length h.message.bytes ≡ size_of (place_words h)
unfolding place_words
message_sized h g = g.sized

-- ## Some messages, and their bytes with more behind them

module _ (more : List ℕ) where
  pub held_back : (hs : List Held) → AllGood hs → held_in (map place_words hs) (joined (bytes_each hs) ++ more) ≡ hs
  unfolding AllGood held_in joined
  held_back [] g = refl
  held_back (h ∷ hs) g =
      let bytes = h.message.bytes in
      let rest = joined (bytes_each hs) ++ more in
      let e = message_sized h g.0 in
      rw (append_assoc bytes (joined (bytes_each hs)) more, take_at bytes rest (size_of (place_words h)) e, drop_at bytes rest (size_of (place_words h)) e, message_back h, held_back hs g.1) refl

  pub all_pass : (hs : List Held) → AllGood hs → places_sound (map place_words hs) (joined (bytes_each hs) ++ more) (bits_all (map place_words hs)) ≡ true
  unfolding AllGood places_sound joined sum_of
  all_pass [] g = refl
  all_pass (h ∷ hs) g =
      let p = place_words h in
      let bytes = h.message.bytes in
      let rest = joined (bytes_each hs) ++ more in
      let bits = bits_all (map place_words hs) in
      let e = message_sized h g.0 in
      let left : bits_in_place p + bits - bits_in_place p ≡ bits = omega arith in
      rw (append_assoc bytes (joined (bytes_each hs)) more, take_at bytes rest (size_of p) e, drop_at bytes rest (size_of p) e, le-leb (bits_in_place p) (bits_in_place p + bits) (omega arith), place_passes p bytes (message_stands h g.0), left)
      (all_pass hs g.1)

-- ## All of it

front : {A : Type 0} (n : ℕ) (s m : List A) → length s ≡ n → take n (laid s m) ≡ s
front n s m e = rw (← e) (take_laid s m)

module _ (s : State) (m : HeldMemory) where
  places_long : length (map place_words (values s)) ≡ length s
  places_long = length-map (values s) place_words ∙ length-map s (λ (e : ℕ × Held). e.1)

  live_channels : take (length s) (laid_in s m).channels ≡ channels s
  unfolding laid_in
  live_channels = front (length s) (channels s) m.channels (length-map s (λ (e : ℕ × Held). e.0))

  live_places : take (length s) (laid_in s m).places ≡ map place_words (values s)
  unfolding laid_in
  live_places = front (length s) (map place_words (values s)) m.places places_long

  pub state_back : AllGood (values s) → state_of (length s) (laid_in s m) ≡ s
  unfolding state_of laid_in laid
  state_back g = rw (live_channels, live_places, held_back (drop (length (bytes_all s)) m.arena) (values s) g) (beside_whole s)

  bytes_sized : AllGood (values s) → length (bytes_all s) ≡ size_all (map place_words (values s))
  bytes_sized g =
      let n = length (values s) in
      rw (take_all n (bytes_each (values s)) (omega (arith, length-map (values s) (λ (h : Held). h.message.bytes))), take_all n (map place_words (values s)) (omega (arith, length-map (values s) place_words))) at (sizes_placed (values s) g n)

  -- few bits take few bytes, so that the room never runs out within the limits
  pub bytes_few : AllGood (values s) → 8 * length (bytes_all s) ≤ total s + 7 * length s
  bytes_few g = omega (arith, bytes_sized g, bits_placed s, sizes_few (map place_words (values s)), places_long)

  module _ (a : Accumulator) (o : OpeningRules a m) (k : Kept a s) where
    pub bytes_within : length (bytes_all s) ≤ length m.arena
    bytes_within = omega (arith, bytes_few k.good, o.arena_room, k.within, k.total_within)

    laid_opens : OpeningRules (counting a s) (laid_in s m)
    unfolding laid_in
    laid_opens =
        record {
          few = o.few;
          bounded = o.bounded;
          channels_room = rw (length_laid (channels s) m.channels (omega (arith, length-map s (λ (e : ℕ × Held). e.0), k.within, o.channels_room))) o.channels_room;
          places_room = rw (length_laid (map place_words (values s)) m.places (omega (arith, places_long, k.within, o.places_room))) o.places_room;
          arena_room = rw (length_laid (bytes_all s) m.arena bytes_within) o.arena_room;
        }

    pub laid_stands : Stands (counting a s) (laid_in s m)
    unfolding laid_in laid
    laid_stands =
        record {
          opens = laid_opens;
          live_fits = k.within;
          total_fits = k.total_within;
          ascends = rw live_channels k.ordered;
          places_are_sound = rw (live_places, bits_placed s) (all_pass (drop (length (bytes_all s)) m.arena) (values s) k.good);
        }

    pub laid_sound : memory_sound (counting a s) (laid_in s m) ≡ true
    laid_sound = passes (counting a s) (laid_in s m) laid_stands

-- an accumulator that holds nothing
module _ (a : Accumulator) (m : HeldMemory) (none-live : a.active ≡ 0) (no_bits : a.total_buffered_bits ≡ 0) where
  pub empty_held : held_by a m ≡ []
  unfolding state_of beside
  empty_held = rw none-live refl

  pub empty_stands : OpeningRules a m → Stands a m
  unfolding ascending places_sound
  empty_stands o =
      record { opens = o; live_fits = omega arith; total_fits = omega arith; ascends = rw none-live refl; places_are_sound = rw (none-live, no_bits) refl }

  pub empty_sound : fit a.max_active a.max_buffered_bits m ≡ true → memory_sound a m ≡ true
  empty_sound f = passes a m (empty_stands (opens a m f))
