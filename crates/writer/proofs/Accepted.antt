-- What a call of the writer that is not refused has shown, and what it leaves: each test is passed in turn.
use Prim.Native.Nat.{ℕ, ◌+◌, ◌*◌, ◌/◌, ◌≤◌}
use mathlib.Core.Path.{◌≡◌, refl, ◌∙◌}
use mathlib.Core.Bool.{Bool, true, false, cond}
use mathlib.Core.List.{List, [], ◌∷◌}
use lib.Dec.{ltb}
use lib.ListN.{length}
use borrow.Author.Tests.{ltb-false}
use Rattle.bitio_window.specs.Refusals.{Refusal, beyond, payload_too_long, payload_short, unwritable, no_room}
use Rattle.bitio_window.specs.Parse.{value}
use Rattle.types.specs.declared.RawBunchHeader.{RawBunchHeader}
use Rattle.writer_spelling.specs.Bits.{put_bits}
use Rattle.writer_spelling.specs.Header.{bunch_bits, writable}
use Rattle.writer.specs.Answers.{WriteReply, write_refuses, room_of, bits_with, appended, write_bunch, close_packet}

-- the bits at the cursor, and up to which bit the packet is then written
abbrev pub wrote : List Bool → List ℕ → ℕ → ℕ → WriteReply
wrote bits p at to = record { answer = value to; packet = put_bits p at bits }

-- a test that refuses, and one that lets on
module _ (p : List ℕ) (e : Refusal) where
  past : {to : ℕ} (t : Bool) (y : WriteReply) → (cond t (write_refuses e p) y).answer ≡ value to → (t ≡ false) × (cond t (write_refuses e p) y ≡ y) × (y.answer ≡ value to)
  past true y h = (cc, cc, cc)
  past false y h = (refl, refl, h)

  on : {to : ℕ} (t : Bool) (y : WriteReply) → (cond t y (write_refuses e p)).answer ≡ value to → (t ≡ true) × (cond t y (write_refuses e p) ≡ y) × (y.answer ≡ value to)
  on true y h = (refl, refl, h)
  on false y h = (cc, cc, cc)

pub record Added (bits : List Bool) (p : List ℕ) (at to : ℕ) : Type 0 where
  pub room : at + length bits ≤ room_of p
  pub written : appended bits p at to ≡ wrote bits p at to

was_added : (bits : List Bool) (p : List ℕ) (at to : ℕ) {n : ℕ} → (appended bits p at to).answer ≡ value n → Added bits p at to
unfolding appended
was_added bits p at to h =
    let t = past p (no_room (bits_with at (length bits))) (ltb (room_of p) (at + length bits)) (wrote bits p at to) h in
    record { room = ltb-false (room_of p) (at + length bits) t.0; written = t.1 }

module _ (h : RawBunchHeader) (payload : List ℕ) (count : ℕ) (p : List ℕ) (at : ℕ) where
  abbrev bits : List Bool
  bits = bunch_bits h payload count

  pub record Accepted : Type 0 where
    pub allowed : writable h ≡ true
    pub few : count ≤ 16383
    pub room : at + length bits ≤ room_of p
    pub written : write_bunch h payload count p at ≡ wrote bits p at (at + length bits)

  pub accepted : {n : ℕ} → (write_bunch h payload count p at).answer ≡ value n → Accepted
  unfolding write_bunch
  accepted a =
      let last = appended bits p at (at + length bits) in
      let long = cond (ltb (8 * length payload) count) (write_refuses (payload_short count) p) last in
      let wide = cond (ltb 16383 count) (write_refuses (payload_too_long count) p) long in
      let t = past p (beyond at (8 * length p)) (ltb (8 * length p) at) (cond (writable h) wide (write_refuses unwritable p)) a in
      let u = on p unwritable (writable h) wide t.2 in
      let v = past p (payload_too_long count) (ltb 16383 count) long u.2 in
      let w = past p (payload_short count) (ltb (8 * length payload) count) last v.2 in
      let x = was_added bits p at (at + length bits) w.2 in
      record { allowed = u.0; few = ltb-false 16383 count v.0; room = x.room; written = t.1 ∙ u.1 ∙ v.1 ∙ w.1 ∙ x.written }

module _ (p : List ℕ) (at : ℕ) where
  pub record Closed : Type 0 where
    pub room : at + 1 ≤ room_of p
    pub written : close_packet p at ≡ wrote (true ∷ []) p at (8 * (at / 8 + 1))

  pub closed : {n : ℕ} → (close_packet p at).answer ≡ value n → Closed
  unfolding close_packet
  closed a =
      let t = past p (beyond at (8 * length p)) (ltb (8 * length p) at) (appended (true ∷ []) p at (8 * (at / 8 + 1))) a in
      let x = was_added (true ∷ []) p at (8 * (at / 8 + 1)) t.2 in
      record { room = x.room; written = t.1 ∙ x.written }
