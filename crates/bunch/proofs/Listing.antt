-- A turn of the loop that lists: the message of the next place comes behind what stands in the output and in the list.
use Prim.Native.Nat.{ℕ, suc, ◌+◌, ◌≤◌, ◌<◌, ◌^◌}
use mathlib.Core.Path.{◌≡◌, refl, sym, ap, ◌∙◌}
use mathlib.Core.Bool.{Bool, true, false, cond}
use mathlib.Core.List.{List, [], ◌∷◌, ◌++◌, append-nil, append_assoc, map-append}
use native.Mathlib.Omega.{arith}
use lib.ListN.{length, get_or, take, drop, length-append, length-map, get_or-map}
use lib.Seq.{length-take-le, take_all, take-suc, take-append_seam, drop-append_seam, drop-drop, get_or-take}
use Rattle.tables.specs.Columns.{laid}
use Rattle.tables.specs.Tables.{values}
use Rattle.bunch_places.specs.Bytes.{pasted, part}
use Rattle.bunch_places.specs.Packed.{joined}
use Rattle.bunch_places.proofs.Packed.{start_within}
use Rattle.bunch_places.proofs.Pastes.{pasted_none, length_part}
use Rattle.bunch_judging.specs.Held.{Held}
use Rattle.bunch_held.specs.declared.Accumulator.{Accumulator}
use Rattle.bunch_held.specs.Memory.{HeldMemory, State, bits_in_place, size_of, size_all, held_at, bytes_each, bytes_all}
use Rattle.bunch_held.specs.State.{Stands}
use Rattle.bunch_held.specs.Calls.{held_by}
use Rattle.bunch_held.proofs.Sums.{sum_more, sizes_few}
use Rattle.bunch_held.proofs.Holding.{message_at, columns, message_at_is, bytes_fit, starts_next, start_asks}
use Rattle.bunch.specs.Draining.{unfinished, listed_of, listed_all}
use Rattle.bunch.specs.Shown.{is_finished, shown_count, shown_size, shown_bytes, shown_place}
use Rattle.bunch.proofs.Unfinished.{unfinished_append, bytes_append, fewer, shorter}

-- pasted behind what was pasted to the front
behind : {A : Type 0} (at : ℕ) (b q m : List A) → at ≡ length b → pasted at q (pasted 0 b m) ≡ pasted 0 (b ++ q) m
unfolding pasted laid
behind at b q m e =
    rw (e, take-append_seam b (drop (length b) m), drop-append_seam b (drop (length b) m), drop-drop (length q) (length b) m, length-append b q, append_assoc b q (drop (length b + length q) m)) refl

-- ## One place

module _ (c : ℕ) (p bytes : List ℕ) where
  abbrev only : State
  only = unfinished ((c, held_at p bytes) ∷ [])

  only_bytes : bytes_all only ≡ shown_bytes p bytes
  unfolding unfinished held_at shown_bytes joined
  only_bytes = go (is_finished p)
    where
      go : (b : Bool) → bytes_all (cond b [] ((c, held_at p bytes) ∷ [])) ≡ cond b [] bytes
      go true = refl
      go false = append-nil bytes

  only_listed : listed_all only ≡ shown_place c p
  unfolding unfinished held_at shown_place
  only_listed = go (is_finished p)
    where
      go : (b : Bool) → listed_all (cond b [] ((c, held_at p bytes) ∷ [])) ≡ cond b [] ((c ∷ bits_in_place p ∷ drop 4 p) ∷ [])
      go true = refl
      go false = refl

  only_count : length only ≡ shown_count p
  unfolding unfinished held_at shown_count
  only_count = go (is_finished p)
    where
      go : (b : Bool) → length {A = ℕ × Held} (cond b [] ((c, held_at p bytes) ∷ [])) ≡ cond b 0 1
      go true = refl
      go false = refl

  only_size : length bytes ≡ size_of p → length (bytes_all only) ≡ shown_size p
  unfolding shown_bytes shown_size
  only_size e = rw only_bytes (go (is_finished p))
    where
      go : (b : Bool) → length {A = ℕ} (cond b [] bytes) ≡ cond b 0 (size_of p)
      go true = refl
      go false = e

-- ## The loop

-- the messages of the first i places stand in the output and in the list
pub record Lists (s : State) (i : ℕ) (output₀ : List ℕ) (list₀ : List (List ℕ)) (output : List ℕ) (list : List (List ℕ)) (at n : ℕ) : Type 0 where
  pub at_is : at ≡ length (bytes_all (unfinished (take i s)))
  pub n_is : n ≡ length (unfinished (take i s))
  pub output_is : output ≡ pasted 0 (bytes_all (unfinished (take i s))) output₀
  pub list_is : list ≡ pasted 0 (listed_all (unfinished (take i s))) list₀

pub lists_none : (s : State) (output : List ℕ) (list : List (List ℕ)) → Lists s 0 output list output list 0 0
unfolding unfinished joined
lists_none s output list = record { at_is = refl; n_is = refl; output_is = pasted_none 0 output; list_is = pasted_none 0 list }

module _ (a : Accumulator) (m : HeldMemory) (stands : Stands a m) (i : ℕ) (h : i < a.active) where
  abbrev s : State
  s = held_by a m

  abbrev p : List ℕ
  p = get_or m.places i []

  abbrev c : ℕ
  c = get_or m.channels i 0

  abbrev from : ℕ
  from = size_all (take i m.places)

  abbrev bytes : List ℕ
  bytes = part from (size_of p) m.arena

  abbrev none_held : ℕ × Held
  none_held = (0, held_at [] [])

  channel_is : (get_or s i none_held).0 ≡ c
  channel_is =
      sym (get_or-map (λ (e : ℕ × Held). e.0) s i none_held) ∙ ap (λ (l : List ℕ). get_or l i 0) (columns a m stands).first ∙ get_or-take a.active m.channels i 0 h

  held_is : (get_or s i none_held).1 ≡ message_at m i
  held_is = sym (get_or-map (λ (e : ℕ × Held). e.1) s i none_held) ∙ message_at_is a m stands (held_at [] []) i h

  next : unfinished (take (suc i) s) ≡ unfinished (take i s) ++ only c p bytes
  next =
      let e : get_or s i none_held ≡ (c, message_at m i) = rw (← channel_is, ← held_is) refl in
      rw (take-suc s i none_held (omega (arith, (columns a m stands).size)), e) (unfinished_append (take i s) ((c, message_at m i) ∷ []))

  bytes_there : from + size_of p ≤ length m.arena
  bytes_there = omega (arith, starts_next a m stands i h, start_within (bytes_each (values s)) (suc i), bytes_fit a m stands)

  pub start_next : size_all (take (suc i) m.places) ≡ from + size_of p
  start_next = sum_more size_of m.places i (omega (arith, stands))

  -- few bits take few bytes
  small : (bits_in_place p < 2 ^ 32) × (from + size_of p < 2 ^ 32)
  small =
      let asks = start_asks a m stands (suc i) h in
      let few = sizes_few (take (suc i) m.places) in
      (omega (arith, sum_more bits_in_place m.places i (omega (arith, stands)), asks), omega (arith, asks, few, start_next, length-take-le (suc i) m.places (omega (arith, stands))))

  bytes_next : bytes_all (unfinished (take (suc i) s)) ≡ bytes_all (unfinished (take i s)) ++ shown_bytes p bytes
  bytes_next = ap bytes_all next ∙ bytes_append (unfinished (take i s)) (only c p bytes) ∙ rw (only_bytes c p bytes) refl

  list_next : listed_all (unfinished (take (suc i) s)) ≡ listed_all (unfinished (take i s)) ++ shown_place c p
  list_next = ap listed_all next ∙ map-append listed_of (unfinished (take i s)) (only c p bytes) ∙ rw (only_listed c p bytes) refl

  size_next : length (bytes_all (unfinished (take (suc i) s))) ≡ length (bytes_all (unfinished (take i s))) + shown_size p
  size_next =
      ap (λ (u : State). length (bytes_all u)) next ∙ ap length (bytes_append (unfinished (take i s)) (only c p bytes))
      ∙ length-append (bytes_all (unfinished (take i s))) (bytes_all (only c p bytes)) ∙ rw (only_size c p bytes (length_part from (size_of p) m.arena bytes_there)) refl

  count_next : length (unfinished (take (suc i) s)) ≡ length (unfinished (take i s)) + shown_count p
  count_next = ap length next ∙ length-append (unfinished (take i s)) (only c p bytes) ∙ rw (only_count c p bytes) refl

  -- what is still to come fits where all of it does
  size_fits : length (bytes_all (unfinished (take i s))) + shown_size p ≤ length (bytes_all (unfinished s))
  size_fits = omega (arith, size_next, shorter s (suc i))

  count_fits : length (unfinished (take i s)) + shown_count p ≤ length (unfinished s)
  count_fits = omega (arith, count_next, fewer s (suc i))

  pub lists_next : {output₀ output output' : List ℕ} {list₀ list list' : List (List ℕ)} {at n : ℕ} (j at' n' : ℕ) → Lists s i output₀ list₀ output list at n → j ≡ suc i
      → at' ≡ at + shown_size p → n' ≡ n + shown_count p → output' ≡ pasted at (shown_bytes p bytes) output → list' ≡ pasted n (shown_place c p) list
      → Lists s j output₀ list₀ output' list' at' n'
  lists_next {output₀ = output₀} {list₀ = list₀} {at = at} {n = n} j at' n' l e f g o k =
      let u = unfinished (take i s) in
      record {
        at_is = rw e (omega (arith, size_next, l.at_is));
        n_is = rw e (omega (arith, count_next, l.n_is));
        output_is = o ∙ ap (pasted at (shown_bytes p bytes)) l.output_is ∙ behind at (bytes_all u) (shown_bytes p bytes) output₀ l.at_is ∙ rw (e, bytes_next) refl;
        list_is = k ∙ ap (pasted n (shown_place c p)) l.list_is ∙ behind n (listed_all u) (shown_place c p) list₀ (l.n_is ∙ sym (length-map u listed_of)) ∙ rw (e, list_next) refl;
      }

-- what a turn's calls ask
pub record Room (m : HeldMemory) (i start at n : ℕ) (output : List ℕ) (list : List (List ℕ)) : Type 0 where
  pub few_bits : bits_in_place (get_or m.places i []) < 2 ^ 32
  pub few_bytes : start + size_of (get_or m.places i []) < 2 ^ 32
  pub in_arena : start + size_of (get_or m.places i []) ≤ length m.arena
  pub in_output : at + shown_size (get_or m.places i []) ≤ length output
  pub in_list : n + shown_count (get_or m.places i []) ≤ length list

pub room : (a : Accumulator) (m : HeldMemory) → Stands a m → (i : ℕ) → i < a.active → {start at n : ℕ} {output₀ output : List ℕ} {list₀ list : List (List ℕ)}
    → length (bytes_all (unfinished (held_by a m))) ≤ length output → length (unfinished (held_by a m)) ≤ length list → start ≡ size_all (take i m.places)
    → Lists (held_by a m) i output₀ list₀ output list at n → Room m i start at n output list
room a m stands i h bytes_fit messages-fit e l =
    record {
      few_bits = (small a m stands i h).0;
      few_bytes = omega (arith, (small a m stands i h).1);
      in_arena = omega (arith, bytes_there a m stands i h);
      in_output = omega (arith, size_fits a m stands i h, l.at_is);
      in_list = omega (arith, count_fits a m stands i h, l.n_is);
    }

-- after the last place
pub lists_all : (a : Accumulator) (m : HeldMemory) → Stands a m → {i at n : ℕ} {output₀ output : List ℕ} {list₀ list : List (List ℕ)} → i ≡ a.active
    → Lists (held_by a m) i output₀ list₀ output list at n → (output ≡ pasted 0 (bytes_all (unfinished (held_by a m))) output₀) × (list ≡ pasted 0 (listed_all (unfinished (held_by a m))) list₀)
lists_all a m stands {i} e l =
    let whole : take i (held_by a m) ≡ held_by a m = take_all i (held_by a m) (omega (arith, (columns a m stands).size)) in
    (rw whole at l.output_is, rw whole at l.list_is)
