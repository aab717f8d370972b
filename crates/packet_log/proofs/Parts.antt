-- A part of a log that stands in a buffer: a record found there is the log's, and at the log's end so are the end and a cut
-- record. So a program may read a log of any length through a buffer that holds one record.
use mathlib.Core.Path.{◌≡◌, refl, ap, sym, ◌∙◌}
use mathlib.Core.Bool.{Bool, true, false}
use mathlib.Core.List.{List, ◌++◌}
use Prim.Native.Nat.{ℕ, ◌+◌, ◌≤◌, ◌<◌}
use native.Mathlib.Nat.{add-zero, add_assoc}
use native.Mathlib.Omega.{arith}
use borrow.Author.Tests.{leb-true, leb-false, eqb-true, eqb-false}
use lib.Dec.{eqb, leb}
use lib.ListN.{length, get_or, take, drop, length-append, length-drop, get_or-append}
use lib.Seq.{get_or-append-add, drop-append-add, drop-append-le, take-append-le}
use Rattle.bitio_bits.specs.Floats.{signed}
use Rattle.std.proofs.Common.{Some, None, Ok, Err}
use Rattle.packet_log.specs.declared.Record.{Record}
use Rattle.packet_log.specs.Log.{length_at, id_at, Entry, entry_at}
use Rattle.packet_log.proofs.Entries.{at_end, cut_at, whole_at}
use Rattle.packet_log.proofs.Steps.{within}

-- what stands at a place, k bytes on
abbrev pub shifted : ℕ → Entry → Entry
shifted k (Ok None) = Ok None
shifted k (Err c) = Err (record { at = k + c.at })
shifted k (Ok (Some r)) = Ok (Some (record { id = r.id; start = k + r.start; length = r.length; next = k + r.next }))

-- a head is its six bytes
pub record Alike (d : List ℕ) (i : ℕ) (e : List ℕ) (j : ℕ) : Type 0 where
  pub lengths : length_at d i ≡ length_at e j
  pub ids : id_at d i ≡ id_at e j

alike : (d : List ℕ) (i : ℕ) (e : List ℕ) (j : ℕ) → ((k : ℕ) → k < 6 → get_or d (i + k) 0 ≡ get_or e (j + k) 0) → Alike d i e j
alike d i e j f =
    let z : get_or d i 0 ≡ get_or e j 0 = simp add-zero at (f 0 (omega arith)) in
    record {
      lengths = omega (arith, z, f 1 (omega arith));
      ids = ap signed (omega (arith, f 2 (omega arith), f 3 (omega arith), f 4 (omega arith), f 5 (omega arith)));
    }

-- the bytes before
module _ (a p : List ℕ) where
  pub behind : (i : ℕ) → entry_at (a ++ p) (length a + i) ≡ shifted (length a) (entry_at p i)
  behind i = go (eqb i (length p)) (leb (i + 6 + length_at p i) (length p)) refl refl
    where
      size : length (a ++ p) ≡ length a + length p
      size = length-append a p

      same : Alike (a ++ p) (length a + i) p i
      same = alike (a ++ p) (length a + i) p i (λ k h. rw (add_assoc (length a) i k) (get_or-append-add a p (i + k) 0))

      go : (b t : Bool) → eqb i (length p) ≡ b → leb (i + 6 + length_at p i) (length p) ≡ t → entry_at (a ++ p) (length a + i) ≡ shifted (length a) (entry_at p i)
      go true t e f = let h : i ≡ length p = eqb-true i (length p) e in sym (at_end (a ++ p) (length a + i) (omega (arith, size))) ∙ ap (shifted (length a)) (at_end p i h)
      go false true e f =
          let n : length a + i ≡ length (a ++ p) → ⊥ = λ x. eqb-false i (length p) e (omega (arith, size)) in
          let h : i + 6 + length_at p i ≤ length p = leb-true (i + 6 + length_at p i) (length p) f in
          let s : length a + i + 6 ≡ length a + (i + 6) = omega arith in
          let x : length a + i + 6 + length_at (a ++ p) (length a + i) ≡ length a + (i + 6 + length_at p i) = omega (arith, same.lengths) in
          sym (whole_at (a ++ p) (length a + i) n (omega (arith, size, same.lengths))) ∙ cc (same.lengths, same.ids, s, x) ∙ ap (shifted (length a)) (whole_at p i (eqb-false i (length p) e) h)
      go false false e f =
          let n : length a + i ≡ length (a ++ p) → ⊥ = λ x. eqb-false i (length p) e (omega (arith, size)) in
          let h : length p < i + 6 + length_at p i = leb-false (i + 6 + length_at p i) (length p) f in
          sym (cut_at (a ++ p) (length a + i) n (omega (arith, size, same.lengths))) ∙ ap (shifted (length a)) (cut_at p i (eqb-false i (length p) e) h)

-- the bytes after
module _ (p z : List ℕ) where
  pub before : (i : ℕ) {r : Record} → entry_at p i ≡ Ok (Some r) → entry_at (p ++ z) i ≡ Ok (Some r)
  before i e =
      let w = within p i e in
      let size = length-append p z in
      let same = alike (p ++ z) i p i (λ k h. get_or-append p z 0 (i + k) (omega (arith, w.starts, w.follows, w.inside))) in
      let n : i ≡ length p → ⊥ = λ x. omega (arith, w.starts, w.follows, w.inside) in
      let m : i ≡ length (p ++ z) → ⊥ = λ x. omega (arith, w.starts, w.follows, w.inside, size) in
      let h : i + 6 + length_at p i ≤ length p = omega (arith, w.starts, w.long, w.follows, w.inside) in
      sym (whole_at (p ++ z) i m (omega (arith, size, same.lengths))) ∙ cc (same.lengths, same.ids) ∙ whole_at p i n h ∙ e

-- and a packet's own bytes
pub packet_bytes : (a p z : List ℕ) (start n : ℕ) → start + n ≤ length p → take n (drop (length a + start) (a ++ (p ++ z))) ≡ take n (drop start p)
packet_bytes a p z start n h =
    rw (drop-append-add a (p ++ z) start, drop-append-le start p z (omega arith))
    (take-append-le n (drop start p) z (rw (length-drop start p) (omega arith)))
