-- What sound memory holds: its places and the arena's front say the state, and each message in it is good.
use Prim.Native.Nat.{ℕ, zero, suc, ◌+◌, ◌*◌, ◌-◌, ◌%◌, ◌≤◌, ◌<◌}
use mathlib.Core.Path.{◌≡◌, refl, sym, ap, ◌∙◌}
use mathlib.Core.Bool.{Bool, true, false, ◌||◌}
use mathlib.Core.List.{List, [], ◌∷◌, ◌++◌, map}
use native.Mathlib.Nat.{not-suc-le-zero, le_of_suc-le-suc}
use native.Mathlib.Omega.{arith}
use lib.Dec.{eqb, leb}
use lib.ListN.{length, get_or, take, drop, length-append, length-drop}
use lib.Seq.{length-take-le, take-add, take-take, drop-drop, get_or-take}
use mir.Val.{bool_byte}
use borrow.Author.Tests.{leb-true, eqb-true, eqb-false}
use Rattle.tables.specs.Columns.{laid}
use Rattle.tables.specs.Tables.{values}
use Rattle.tables.proofs.Ascending.{both}
use Rattle.tables.proofs.Columns.{laid_take}
use Rattle.tables.proofs.Held.{Holds, holds}
use Rattle.bunch_places.specs.Bytes.{part}
use Rattle.bunch_places.specs.Packed.{joined}
use Rattle.bunch_places.proofs.Packed.{start}
use Rattle.bunch_judging.specs.Held.{Held}
use Rattle.bunch_held.specs.declared.Accumulator.{Accumulator}
use Rattle.bunch_held.specs.Memory.{HeldMemory, State, place_words, bits_in_place, size_of, sum_of, bits_all, size_all, held_at, held_in, state_of, bytes_each, bytes_all, laid_in, total}
use Rattle.bunch_held.specs.Sound.{place_sound, places_sound}
use Rattle.bunch_held.specs.State.{Stands, Good, AllGood, Kept}
use Rattle.bunch_held.specs.Calls.{held_by, counting}
use Rattle.bunch_held.proofs.Sums.{sum_more, sum_front, sizes_few}
use Rattle.bunch_held.proofs.Soundness.{PlaceStands, place_stands}

-- ## A place

flag_back : (x : ℕ) → x ≤ 1 → bool_byte (eqb x 1) ≡ x
flag_back x h = go (eqb x 1) refl
  where
    go : (b : Bool) → eqb x 1 ≡ b → bool_byte b ≡ x
    go true e = sym (eqb-true x 1 e)
    go false e = let n : x ≡ 1 → ⊥ = eqb-false x 1 e in omega (arith, n)

four_words : (p : List ℕ) → 4 ≤ length p → get_or p 0 0 ∷ get_or p 1 0 ∷ get_or p 2 0 ∷ get_or p 3 0 ∷ drop 4 p ≡ p
four_words [] h = absurd (omega arith)
four_words (a ∷ []) h = absurd (omega arith)
four_words (a ∷ b ∷ []) h = absurd (omega arith)
four_words (a ∷ b ∷ c ∷ []) h = absurd (omega arith)
four_words (a ∷ b ∷ c ∷ d ∷ p) h = refl

aligned_back : (finished : Bool) (rest : ℕ) → (finished || eqb rest 0) ≡ true → finished ≡ false → rest ≡ 0
aligned_back true rest e f = let z : ◌≡◌ {A = ℕ} 0 1 = cc in absurd (omega arith)
aligned_back false rest e f = eqb-true rest 0 e

module _ (p bytes : List ℕ) (s : PlaceStands p bytes) where
  pub place_back : place_words (held_at p bytes) ≡ p
  unfolding place_words held_at
  place_back = rw (flag_back (get_or p 1 0) s.finished_flag, flag_back (get_or p 2 0) s.reliable_flag) (four_words p (omega (arith, s.words)))

  pub place_good : length bytes ≡ size_of p → Good (held_at p bytes)
  unfolding held_at
  place_good e =
      record {
        header_words = rw length-drop (omega (arith, s.words));
        sequence_fits = s.sequence_fits;
        sized = e;
        spare = s.spare;
        aligned = aligned_back (eqb (get_or p 1 0) 1) (bits_in_place p % 8) s.aligned;
      }

-- ## Some places

pub length_held : (ps : List (List ℕ)) (arena : List ℕ) → length (held_in ps arena) ≡ length ps
unfolding held_in
length_held [] arena = refl
length_held (p ∷ ps) arena = ap suc (length_held ps (drop (size_of p) arena))

pub bytes_held : (ps : List (List ℕ)) (arena : List ℕ) → joined (bytes_each (held_in ps arena)) ≡ take (size_all ps) arena
unfolding held_in held_at joined sum_of
bytes_held [] arena = refl
bytes_held (p ∷ ps) arena =
    ap (λ (t : List ℕ). take (size_of p) arena ++ t) (bytes_held ps (drop (size_of p) arena)) ∙ sym (take-add (size_of p) (size_all ps) arena)

pub bits_placed : (s : State) → total s ≡ bits_all (map place_words (values s))
unfolding total sum_of place_words
bits_placed [] = refl
bits_placed (e ∷ s) = ap (λ (n : ℕ). e.1.message.bits + n) (bits_placed s)

-- what the pass over them shows
pub record AllStand (ps : List (List ℕ)) (arena : List ℕ) (left : ℕ) : Type 0 where
  pub placed : map place_words (held_in ps arena) ≡ ps
  pub counted : left ≡ bits_all ps
  pub good : left + 7 * length ps ≤ 8 * length arena → AllGood (held_in ps arena)

pub all_stand : (ps : List (List ℕ)) (arena : List ℕ) (left : ℕ) → places_sound ps arena left ≡ true → AllStand ps arena left
unfolding places_sound held_in sum_of AllGood
all_stand [] arena left e = record { placed = refl; counted = eqb-true left 0 e; good = λ r. tt }
all_stand (p ∷ ps) arena left e =
    let bytes = take (size_of p) arena in
    let u = both _ (places_sound ps (drop (size_of p) arena) (left - bits_in_place p)) e in
    let v = both (leb (bits_in_place p) left) (place_sound p bytes) u.0 in
    let few = leb-true (bits_in_place p) left v.0 in
    let s = place_stands p bytes v.1 in
    let rest = all_stand ps (drop (size_of p) arena) (left - bits_in_place p) u.1 in
    record {
      placed = rw (place_back p bytes s, rest.placed) refl;
      counted = omega (arith, few, rest.counted);
      good = λ r. (place_good p bytes s (length-take-le (size_of p) arena (omega arith)), rest.good (rw length-drop (omega arith)));
    }

pub sizes_placed : (hs : List Held) → AllGood hs → (i : ℕ) → start i (bytes_each hs) ≡ size_all (take i (map place_words hs))
unfolding AllGood joined sum_of place_words
sizes_placed hs g zero = refl
sizes_placed [] g (suc i) = refl
sizes_placed (h ∷ hs) g (suc i) = rw (length-append h.message.bytes (joined (take i (bytes_each hs))), g.0.sized, sizes_placed hs g.1 i) refl

pub held_at_is : (d : Held) (ps : List (List ℕ)) (arena : List ℕ) (i : ℕ) → i < length ps
    → get_or (held_in ps arena) i d ≡ held_at (get_or ps i []) (part (size_all (take i ps)) (size_of (get_or ps i [])) arena)
unfolding held_in sum_of
held_at_is d [] arena i h = absurd (not-suc-le-zero h)
held_at_is d (p ∷ ps) arena zero h = refl
held_at_is d (p ∷ ps) arena (suc i) h = held_at_is d ps (drop (size_of p) arena) i (le_of_suc-le-suc h) ∙ rw (drop-drop (size_all (take i ps)) (size_of p) arena) refl

-- ## All of it

-- what place i holds, as the place and the arena have it
abbrev pub message_at : HeldMemory → ℕ → Held
message_at m i =
    let p = get_or m.places i [] in held_at p (part (size_all (take i m.places)) (size_of p) m.arena)

module _ (a : Accumulator) (m : HeldMemory) (s : Stands a m) where
  abbrev ps : List (List ℕ)
  ps = take a.active m.places

  live_places : length ps ≡ a.active
  live_places = length-take-le a.active m.places (omega (arith, s.opens.places_room, s.live_fits))

  standing : AllStand ps m.arena a.total_buffered_bits
  standing = all_stand ps m.arena a.total_buffered_bits s.places_are_sound

  pub columns : Holds (held_by a m) (take a.active m.channels) (held_in ps m.arena) a.active
  unfolding state_of
  columns =
      holds (take a.active m.channels) (held_in ps m.arena) (length-take-le a.active m.channels (omega (arith, s.opens.channels_room, s.live_fits)))
      (length_held ps m.arena ∙ live_places)

  pub places_are : map place_words (values (held_by a m)) ≡ ps
  places_are = rw columns.second standing.placed

  pub bytes_are : bytes_all (held_by a m) ≡ take (size_all ps) m.arena
  bytes_are = rw columns.second (bytes_held ps m.arena)

  sizes_fit : size_all ps ≤ length m.arena
  sizes_fit = omega (arith, sizes_few ps, live_places, standing.counted, s.opens.arena_room, s.live_fits, s.total_fits)

  pub used_is : length (bytes_all (held_by a m)) ≡ size_all ps
  used_is = ap length bytes_are ∙ length-take-le (size_all ps) m.arena sizes_fit

  pub bytes_fit : length (bytes_all (held_by a m)) ≤ length m.arena
  bytes_fit = omega (arith, used_is, sizes_fit)

  pub bytes_first : m.arena ≡ laid (bytes_all (held_by a m)) m.arena
  bytes_first = rw bytes_are (sym (laid_take (size_all ps) m.arena))

  pub total_is : total (held_by a m) ≡ a.total_buffered_bits
  total_is = bits_placed (held_by a m) ∙ ap bits_all places_are ∙ sym standing.counted

  pub kept : Kept a (held_by a m)
  kept =
      record {
        ordered = rw columns.first s.ascends;
        good = rw columns.second (standing.good (omega (arith, live_places, s.opens.arena_room, s.live_fits, s.total_fits)));
        within = omega (arith, columns.size, s.live_fits);
        total_within = omega (arith, total_is, s.total_fits);
      }

  pub message_at_is : (d : Held) (i : ℕ) → i < a.active → get_or (values (held_by a m)) i d ≡ message_at m i
  message_at_is d i h =
      rw columns.second
      (held_at_is d ps m.arena i (omega (arith, live_places))
      ∙ rw (get_or-take a.active m.places i [] h, take-take i a.active m.places (omega arith)) refl)

  -- where a message starts, and what counting up to it asks
  pub starts : (i : ℕ) → i ≤ a.active → start i (bytes_each (values (held_by a m))) ≡ size_all (take i m.places)
  starts i h = sizes_placed (values (held_by a m)) kept.good i ∙ rw (places_are, take-take i a.active m.places h) refl

  pub starts_next : (i : ℕ) → i < a.active → start (suc i) (bytes_each (values (held_by a m))) ≡ size_all (take i m.places) + size_of (get_or m.places i [])
  starts_next i h = starts (suc i) h ∙ sum_more size_of m.places i (omega (arith, s))

  pub start_asks : (i : ℕ) → i ≤ a.active → (i ≤ length m.places) × (i ≤ 4096) × (bits_all (take i m.places) ≤ 536870912)
  start_asks i h = (omega (arith, s), omega (arith, s), omega (arith, s, sum_front bits_in_place m.places i a.active h, standing.counted))

  -- the state laid again
  pub same_memory : laid_in (held_by a m) m ≡ m
  unfolding laid_in
  same_memory = rw (columns.first, places_are, ← bytes_first, laid_take a.active m.channels, laid_take a.active m.places)

  pub same_counts : counting a (held_by a m) ≡ a
  same_counts = rw (columns.size, total_is)
