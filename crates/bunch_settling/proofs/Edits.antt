-- Each edit's steps together lay the state that it means.
use Prim.Native.Nat.{ℕ, ◌+◌, ◌-◌, ◌≤◌, ◌<◌}
use mathlib.Core.Path.{◌≡◌, refl, sym, ap, ◌∙◌}
use mathlib.Core.List.{List, [], ◌∷◌, ◌++◌}
use native.Mathlib.Nat.{not-suc-le-zero, le_of_suc-le-suc}
use native.Mathlib.Omega.{arith}
use lib.ListN.{length, get_or, set, take, drop, length-append, length-map}
use lib.Seq.{take-take}
use Rattle.tables.specs.Columns.{laid, inserted_at, removed_at}
use Rattle.tables.specs.Tables.{put, without, values}
use Rattle.tables.proofs.Columns.{laid_twice}
use Rattle.bunch_places.specs.Bytes.{pasted, part, bytes_of, payload_bytes}
use Rattle.bunch_places.proofs.Pastes.{length_part}
use Rattle.bunch_places.proofs.Payloads.{length_payload}
use Rattle.bunch_places.proofs.Arena as A
use Rattle.bunch_judging.specs.Held.{Held}
use Rattle.bunch_held.specs.declared.Accumulator.{Accumulator}
use Rattle.bunch_held.specs.Memory.{HeldMemory, held_memory, place_words, bits_in_place, size_of, held_at}
use Rattle.bunch_held.specs.Calls.{held_by}
use Rattle.bunch_held.proofs.Holding.{columns, bytes_first, starts, starts_next}
use Rattle.bunch_held.proofs.Edits.{packed, lays_removed, live_removed, bits_removed, bytes_removed, lays_changed, live_changed, bits_changed, bytes_changed, lays_inserted, live_inserted, bits_inserted, bytes_inserted}
use Rattle.bunch_held.proofs.Moves.{packed_at, bytes_out, bytes_in}
use Rattle.bunch_settling.specs.declared.inner.messages.Settled.{Settled}
use Rattle.bunch_settling.specs.Settling.{Occupied, Changes, Starts, Is, settled, Lays}
use Rattle.bunch_settling.proofs.Numbers.{numbers, free_numbers}

bits_of : (h : Held) {p bytes : List ℕ} → Is h p bytes → h.message.bits ≡ bits_in_place p
unfolding place_words
bits_of h x = ap bits_in_place x.place_is

laid_over : (b q m : List ℕ) → length b ≤ length m → laid (b ++ q) (laid b m) ≡ laid (b ++ q) m
unfolding laid
laid_over [] q m h = refl
laid_over (x ∷ b) q [] h = absurd (not-suc-le-zero h)
laid_over (x ∷ b) q (y ∷ m) h = ap (λ (t : List ℕ). x ∷ t) (laid_over b q m (le_of_suc-le-suc h))

-- bytes to the front, and more behind them
pub shown : (from n bits : ℕ) (arena payload output : List ℕ) {copied out : List ℕ} → from + n ≤ length arena → n ≤ length output → copied ≡ pasted 0 (part from n arena) output
    → out ≡ pasted n (payload_bytes bits payload) copied → out ≡ pasted 0 (part from n arena ++ payload_bytes bits payload) output
unfolding pasted
shown from n bits arena payload output fits room e f =
    let b = part from n arena in
    let q = payload_bytes bits payload in
    f ∙ rw e (A.pasted_laid n b q (laid b output) (sym (length_part from n arena fits)) (sym (laid_twice b output)) ∙ laid_over b q output (omega (arith, length_part from n arena fits)))

-- counts that are a state's
counts_are : (a : Accumulator) {active active' total total' : ℕ} {used : ℕ} {r : Settled} → r ≡ settled a active total used → active ≡ active' → total ≡ total'
    → r.accumulator ≡ (settled a active' total' used).accumulator
counts_are a e f g = rw (e, f, g)

used_of : (a : Accumulator) (active total used : ℕ) {n : ℕ} {r : Settled} → r ≡ settled a active total used → used ≡ n → r.used ≡ n
used_of a active total used e f = rw (e, f)

module _ (a : Accumulator) (m : HeldMemory) (used c i start : ℕ) where
  abbrev place : List ℕ
  place = get_or m.places i []

  pub dropped : Occupied a m used c i start → (size : ℕ) {channels arena : List ℕ} {places : List (List ℕ)} {r : Settled} → size ≡ size_of place
      → arena ≡ pasted start (part (start + size) (used - (start + size)) m.arena) m.arena
      → places ≡ laid (removed_at i (take a.active m.places)) m.places → channels ≡ laid (removed_at i (take a.active m.channels)) m.channels
      → r ≡ settled a (a.active - 1) (a.total_buffered_bits - bits_in_place place) (used - size)
      → Lays a m (without c (held_by a m)) r (held_memory channels places arena)
  dropped o size e moves places_are channels_are counts =
      let s = o.sound.stands in
      let n = numbers a m used c i start o in
      let from = start + size in
      record {
        memory_is = lays_removed a m s c i o.slot channels_are places_are (bytes_out a m s i from start (used - from) (omega (arith, n.within, o.sound.used_is)) moves n.live (omega (arith, o.start_is)) o.start_is);
        counts = counts_are a counts (omega (arith, live_removed a m s c i o.slot)) (omega (arith, bits_removed a m s c i o.slot));
        used_is = used_of a _ _ (used - size) counts (omega (arith, bytes_removed a m s c i o.slot, o.sound.used_is));
      }

  module _ (keep : ℕ) (p : List ℕ) (bits : ℕ) (payload : List ℕ) (g : Changes a m used c i start keep p bits payload) where
    pub changed : (size n : ℕ) {moved arena : List ℕ} {places : List (List ℕ)} {r : Settled} → size ≡ size_of place → n ≡ bytes_of bits
        → moved ≡ pasted (start + keep + n) (part (start + size) (used - (start + size)) m.arena) m.arena
        → arena ≡ pasted (start + keep) (payload_bytes bits payload) moved → places ≡ set m.places i p
        → r ≡ settled a a.active (a.total_buffered_bits - bits_in_place place + bits_in_place p) (used - size + (keep + n))
        → (h : Held) → Is h p (part start keep m.arena ++ payload_bytes bits payload) → Lays a m (put c h (held_by a m)) r (held_memory m.channels places arena)
    unfolding held_at
    changed size n e f moves pastes places_are counts h x =
        let o = g.occupied in
        let s = o.sound.stands in
        let k = numbers a m used c i start o in
        let b = payload_bytes bits payload in
        let long = length_payload bits payload g.enough in
        let from = start + size in
        let own : get_or (packed a m) i [] ≡ part start (size_of place) m.arena = rw o.start_is (packed_at a m s i k.live) in
        let whole : length (part start (size_of place) m.arena) ≡ size_of place = length_part start (size_of place) m.arena (omega (arith, k)) in
        let cut : part start keep m.arena ≡ take keep (get_or (packed a m) i []) = rw own (sym (take-take keep (size_of place) (drop start m.arena) g.kept)) in
        let n_kept : length (part start keep m.arena) ≡ keep = length_part start keep m.arena (omega (arith, k, g.kept)) in
        let size_is : length h.message.bytes ≡ keep + n = ap length x.bytes_are ∙ length-append (part start keep m.arena) b ∙ omega (arith, n_kept, long, f) in
        let starts_here = starts a m s i (omega (arith, k.live)) in
        let within : keep ≤ length (get_or (packed a m) i []) = rw (own, whole) g.kept in
        let live : i < length (packed a m) = omega (arith, k.live, length-map (values (held_by a m)) (λ (y : Held). y.message.bytes), length-map (held_by a m) (λ (y : ℕ × Held). y.1), (columns a m s).size) in
        let lies = A.changed (packed a m) m.arena (bytes_first a m s) i from (start + keep + n) (used - from) (omega (arith, k.within, o.sound.used_is)) moves keep b (start + keep) live within (omega (arith, o.start_is, starts_here)) (omega (arith, e, o.start_is, starts_next a m s i k.live)) (omega (arith, long, f)) (omega (arith, g.room, k, e, f)) pastes in
        record {
          memory_is = lays_changed a m s c i o.slot h (places_are ∙ rw x.place_is refl) (lies ∙ rw (x.bytes_are, cut) refl);
          counts = counts_are a counts (sym (live_changed a m s c i o.slot h)) (omega (arith, bits_changed a m s c i o.slot h, bits_of h x, k.bits_within));
          used_is = used_of a _ _ (used - size + (keep + n)) counts (omega (arith, bytes_changed a m s c i o.slot h, o.sound.used_is, size_is, e, k.within));
        }

  module _ (p payload : List ℕ) (g : Starts a m used c i start p payload) where
    pub started : (n : ℕ) {moved arena channels : List ℕ} {places : List (List ℕ)} {r : Settled} → n ≡ size_of p
        → moved ≡ pasted (start + n) (part start (used - start) m.arena) m.arena → arena ≡ pasted start (payload_bytes (bits_in_place p) payload) moved
        → places ≡ laid (inserted_at i p (take a.active m.places)) m.places → channels ≡ laid (inserted_at i c (take a.active m.channels)) m.channels
        → r ≡ settled a (a.active + 1) (a.total_buffered_bits + bits_in_place p) (used + n)
        → (h : Held) → Is h p (payload_bytes (bits_in_place p) payload) → Lays a m (put c h (held_by a m)) r (held_memory channels places arena)
    started n e moves pastes places_are channels_are counts h x =
        let o = g.vacant in
        let s = o.sound.stands in
        let k = free_numbers a m used c i start o in
        let b = payload_bytes (bits_in_place p) payload in
        let long = length_payload (bits_in_place p) payload g.enough in
        let lies = bytes_in a m s i start (start + n) (used - start) (omega (arith, k.within, o.sound.used_is)) moves b k.live o.start_is (omega (arith, long, e)) (omega (arith, g.room, k, e)) pastes in
        let size_is : length h.message.bytes ≡ n = ap length x.bytes_are ∙ omega (arith, long, e) in
        record {
          memory_is = lays_inserted a m s c i o.slot h channels_are (places_are ∙ rw x.place_is refl) (lies ∙ rw x.bytes_are refl);
          counts = counts_are a counts (omega (arith, live_inserted a m s c i o.slot h)) (omega (arith, bits_inserted a m s c i o.slot h, bits_of h x));
          used_is = used_of a _ _ (used + n) counts (omega (arith, bytes_inserted a m s c i o.slot h, o.sound.used_is, size_is));
        }
