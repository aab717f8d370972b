-- A message that stays within the limits: its words and bytes are those that the code puts, and there is room for them.
use Prim.Native.Nat.{ℕ, ◌+◌, ◌≤◌}
use mathlib.Core.Path.{◌≡◌, refl, sym, ap, ◌∙◌}
use mathlib.Core.Bool.{Bool, true, false, not, cond}
use mathlib.Core.List.{List, [], ◌++◌}
use native.Mathlib.Omega.{arith}
use lib.ListN.{length, get_or, length-append}
use Rattle.types.specs.declared.RawBunchHeader.{RawBunchHeader}
use Rattle.tables.specs.Tables.{none, found, put}
use Rattle.bunch_places.specs.Bytes.{part, bytes_of, payload_bytes}
use Rattle.bunch_places.proofs.Pastes.{length_part}
use Rattle.bunch_places.proofs.Payloads.{length_payload}
use Rattle.bunch_judging.specs.declared.Effect.{Effect}
use Rattle.bunch_judging.specs.Held.{Held}
use Rattle.bunch_judging.specs.Messages.{joined_by, base, grown}
use Rattle.bunch_held.specs.declared.Accumulator.{Accumulator}
use Rattle.bunch_held.specs.Memory.{HeldMemory, place_words, bits_in_place, size_of, held_at}
use Rattle.bunch_held.specs.State.{Kept}
use Rattle.bunch_held.specs.Steps.{holding}
use Rattle.bunch_held.specs.Calls.{held_by}
use Rattle.bunch_held.proofs.Keeping.{total_put}
use Rattle.bunch_held.proofs.Laying.{bytes_within}
use Rattle.bunch_held.proofs.Holding.{same_memory, same_counts}
use Rattle.bunch_held.proofs.Edits.{bytes_changed, live_inserted, bytes_inserted, without_same}
use Rattle.bunch_settling.specs.Settling.{Bytes, Changes, Starts, Is, Lays}
use Rattle.bunch_settling.proofs.Numbers.{numbers}
use Rattle.bunch_settling.specs.Fragments.{started_words, words_after, held_in_place, stayed_by, Holds, Lacks}
use Rattle.bunch_settling.proofs.Places.{started_is, joined_is, place_is}

bits_of : (h : Held) {p bytes : List ℕ} → Is h p bytes → h.message.bits ≡ bits_in_place p
unfolding place_words
bits_of h x = ap bits_in_place x.place_is

few_bits : (a : Accumulator) (c : ℕ) (m : HeldMemory) (h : Held) {p bytes : List ℕ} → Is h p bytes → Kept a (put c h (held_by a m)) → a.max_buffered_bits ≤ 536870912 → bits_in_place p ≤ 536870912
few_bits a c m h x k o = omega (arith, bits_of h x, total_put c (held_by a m) h, k.total_within)

part_of : (b : Bool) (size : ℕ) → cond (not b) size 0 ≤ size
part_of true size = omega arith
part_of false size = omega arith

module _ (a : Accumulator) (m : HeldMemory) (used c i start : ℕ) (e : Effect) (h : RawBunchHeader) (sequence bits : ℕ) (payload : List ℕ) where
  module _ (g : Holds a m used c i start e h sequence bits payload) where
    abbrev p : List ℕ
    p = get_or m.places i []

    abbrev stayed : Held
    stayed = stayed_by e (found (held_in_place i start m)) h bits payload

    pub stayed_is : Is stayed (words_after e.anew e.finished p h sequence bits) (part start (cond (not e.anew) (size_of p) 0) m.arena ++ payload_bytes bits payload)
    unfolding held_at
    stayed_is = go e.anew
      where
        held_place : place_words (held_in_place i start m) ≡ p
        held_place = rw g.occupied.start_is (place_is a m g.occupied.sound.stands i (numbers a m used c i start g.occupied).live)

        go : (b : Bool) → Is (grown e.finished (base (joined_by b (found (held_in_place i start m))) h) (record { header = h; bits = bits; payload = payload })) (words_after b e.finished p h sequence bits) (part start (cond (not b) (size_of p) 0) m.arena ++ payload_bytes bits payload)
        go true = record { place_is = rw g.sequence_is (started_is h e.finished (record { header = h; bits = bits; payload = payload })); bytes_are = refl }
        go false =
            record {
              place_is = rw g.sequence_is (joined_is p (part start (size_of p) m.arena) h e.finished (record { header = h; bits = bits; payload = payload }) held_place);
              bytes_are = refl;
            }

    pub changing : {next : List ℕ} {keep : ℕ} → next ≡ words_after e.anew e.finished p h sequence bits → keep ≡ cond (not e.anew) (size_of p) 0 → e.stays ≡ true
        → Changes a m used c i start keep next bits payload
    changing {next} {keep} f k s =
        let o = g.occupied in
        let st = o.sound.stands in
        let n = numbers a m used c i start o in
        let kept = g.kept s in
        let within : keep ≤ size_of p = rw k (part_of e.anew (size_of p)) in
        let x : Is stayed next (part start keep m.arena ++ payload_bytes bits payload) = rw (f, k) stayed_is in
        let long : length stayed.message.bytes ≡ keep + bytes_of bits =
        ap length x.bytes_are ∙ length-append (part start keep m.arena) (payload_bytes bits payload)
        ∙ omega (arith, length_part start keep m.arena (omega (arith, n, within)), length_payload bits payload g.enough) in
        record {
          occupied = o;
          kept = within;
          enough = g.enough;
          short = g.short;
          few = few_bits a c m stayed x kept st.opens.bounded;
          room = omega (arith, bytes_within (put c stayed (held_by a m)) m a st.opens kept, bytes_changed a m st c i o.slot stayed, long, o.sound.used_is);
        }

    -- the bits that it then has, and the bytes that stay
    pub bits_after : cond (not e.anew) (bits_in_place p) 0 + bits ≡ bits_in_place (words_after e.anew e.finished p h sequence bits)
    bits_after = go e.anew
      where
        go : (b : Bool) → cond (not b) (bits_in_place p) 0 + bits ≡ bits_in_place (words_after b e.finished p h sequence bits)
        go true = omega arith
        go false = refl

    pub joins_few : {joins : ℕ} → joins ≡ cond (not e.anew) (bits_in_place p) 0 → joins ≤ bits_in_place p
    joins_few f = rw f (part_of e.anew (bits_in_place p))

    pub bytes_kept : {joins keep : ℕ} → joins ≡ cond (not e.anew) (bits_in_place p) 0 → keep ≡ bytes_of joins → keep ≡ cond (not e.anew) (size_of p) 0
    bytes_kept f k = k ∙ rw f (go e.anew)
      where
        go : (b : Bool) → bytes_of (cond (not b) (bits_in_place p) 0) ≡ cond (not b) (size_of p) 0
        go true = refl
        go false = refl

    pub bytes_room : {keep after : ℕ} → keep ≡ cond (not e.anew) (size_of p) 0 → after ≡ bits_in_place (words_after e.anew e.finished p h sequence bits) → e.stays ≡ true
        → Bytes a m.arena used start (bits_in_place p) keep bits payload after
    bytes_room k f s =
        let n = numbers a m used c i start g.occupied in
        let x = changing refl k s in
        record {
          within = n.within;
          used_fits = n.wide.used_fits;
          kept = x.kept;
          enough = g.enough;
          short = g.short;
          counted = n.bits_within;
          total_small = n.wide.total_small;
          few = rw f x.few;
          room = x.room;
        }

  module _ (g : Lacks a m used c i start e h sequence bits payload) where
    abbrev new : Held
    new = stayed_by e none h bits payload

    pub new_is : Is new (started_words h sequence bits e.finished) (payload_bytes bits payload)
    new_is = go e.anew
      where
        go : (b : Bool) → Is (grown e.finished (base (joined_by b none) h) (record { header = h; bits = bits; payload = payload })) (started_words h sequence bits e.finished) (payload_bytes bits payload)
        go true = record { place_is = rw g.sequence_is (started_is h e.finished (record { header = h; bits = bits; payload = payload })); bytes_are = refl }
        go false = record { place_is = rw g.sequence_is (started_is h e.finished (record { header = h; bits = bits; payload = payload })); bytes_are = refl }

    pub starting : {next : List ℕ} → next ≡ started_words h sequence bits e.finished → e.stays ≡ true → Starts a m used c i start next payload
    starting f s =
        let o = g.vacant in
        let st = o.sound.stands in
        let kept = g.kept s in
        let long : length new.message.bytes ≡ bytes_of bits = ap length new_is.bytes_are ∙ length_payload bits payload g.enough in
        rw f
        (record {
          vacant = o;
          enough = g.enough;
          few = few_bits a c m new new_is kept st.opens.bounded;
          place_room = omega (arith, kept.within, live_inserted a m st c i o.slot new);
          room = omega (arith, bytes_within (put c new (held_by a m)) m a st.opens kept, bytes_inserted a m st c i o.slot new, long, o.sound.used_is);
        })

    pub staying : Lays a m (holding c none (held_by a m)) (record { accumulator = a; used = used }) m
    staying =
        let o = g.vacant in
        let st = o.sound.stands in
        rw (without_same a m st c i o.slot)
        (record { memory_is = sym (same_memory a m st); counts = sym (same_counts a m st); used_is = o.sound.used_is })
