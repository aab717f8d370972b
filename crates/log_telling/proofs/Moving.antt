-- A read moves the cursor on and stays within the data; a bunch moves it by a header at least, and no count rises by more than 1.
use mathlib.Core.Path.{◌≡◌, refl, sym, ap}
use mathlib.Core.Bool.{Bool, true, false, cond}
use mathlib.Core.List.{List}
use Prim.Native.Nat.{ℕ, ◌+◌, ◌*◌, ◌-◌, ◌≤◌}
use native.Mathlib.Omega.{arith}
use borrow.Author.Tests.{eqb-true, ltb-false}
use lib.Count.{count_leading_zeros}
use lib.Dec.{eqb, leb, ltb}
use lib.ListN.{length}
use mir.Val.{bool_byte}
use Rattle.bitio_window.specs.Parse.{Answer, got, refused}
use Rattle.packet_header.specs.declared.BunchFields.{BunchFields}
use Rattle.packet_header.specs.Header.{readable, as_header, fields}
use Rattle.packet_reading.specs.Packet.{ReaderTables, Read, last_byte, data_bits, rest, ended_at, malformed_at, whole, headed, next_bunch}
use Rattle.packet_tracking.specs.Sequences.{Numbered, numbered}
use Rattle.packet_tracking.specs.Partials.{Tracked, tracking}
use Rattle.packet_header.proofs.Within.{within}
use Rattle.log_telling.specs.Listed.{goes_on}
use Rattle.log_telling.proofs.Gains.{gains_fields}

pub record Moves (bits at : ℕ) (x : Read) : Type 0 where
  pub forward : at ≤ x.next
  pub inside : x.next ≤ bits
  pub far : goes_on x.outcome ≡ true → at + 29 ≤ x.next
  pub one_bunch : x.bunches ≤ 1
  pub one_malformed : x.malformed_packets ≤ 1
  pub one_partial : x.partial_errors ≤ 1
  pub one_limit : x.channel_limits ≤ 1

pub byte_one : (b : Bool) → bool_byte b ≤ 1
byte_one true = omega arith
byte_one false = omega arith

no : {A : Type 0} → false ≡ true → A
no e = absurd (let z : ◌≡◌ {A = ℕ} 0 1 = cc in omega arith)

-- a packet has at most eight bits a byte
module _ (d : List ℕ) where
  pub bits_most : data_bits d ≤ 8 * length d
  unfolding data_bits
  bits_most = go (eqb (last_byte d) 0)
    where
      go : (b : Bool) → cond b 0 (8 * length d - 1 - count_leading_zeros 8 (last_byte d)) ≤ 8 * length d
      go true = omega arith
      go false = omega arith

  unmarked_bits : eqb (last_byte d) 0 ≡ true → data_bits d ≡ 0
  unfolding data_bits
  unmarked_bits e = rw e

module _ (limit : ℕ) (d : List ℕ) (id at : ℕ) (t : ReaderTables) where
  at_end : (bits : ℕ) → at ≤ bits → Moves bits at (ended_at bits t)
  at_end bits h = record { forward = h; inside = omega arith; far = λ e. no e; one_bunch = omega arith; one_malformed = omega arith; one_partial = omega arith; one_limit = omega arith }

  at_broken : (bits : ℕ) (limited : Bool) (s : ReaderTables) → at ≤ bits → Moves bits at (malformed_at bits limited s)
  at_broken bits limited s h =
      record { forward = h; inside = omega arith; far = λ e. no e; one_bunch = omega arith; one_malformed = omega arith; one_partial = omega arith; one_limit = byte_one limited }

  at_fields : (bits : ℕ) (f : BunchFields) (begin : ℕ) → at ≤ bits → at + 29 ≤ begin → begin ≤ bits → Moves bits at (headed bits id limit (readable f begin) t)
  unfolding whole
  at_fields bits f begin h far in-data = go (ltb (bits - begin) f.payload_bit_count) refl
    where
      n : Numbered
      n = numbered limit id f t.sequences

      k : Tracked
      k = tracking limit f n.sequence n.limited t.partials

      go : (b : Bool) → ltb (bits - begin) f.payload_bit_count ≡ b
          → Moves bits at (cond b (malformed_at bits n.limited (record { sequences = n.table; partials = t.partials })) (whole f id begin n k t.partials))
      go true e = at_broken bits n.limited (record { sequences = n.table; partials = t.partials }) h
      go false e =
          let fits = ltb-false (bits - begin) f.payload_bit_count e in
          record {
            forward = omega arith;
            inside = omega (arith, fits);
            far = λ q. omega arith;
            one_bunch = omega arith;
            one_malformed = omega arith;
            one_partial = byte_one k.error;
            one_limit = byte_one n.limited;
          }

  at_header : (bits : ℕ) → at ≤ bits → (x : Answer BunchFields) → fields d (rest bits at) ≡ x → Moves bits at (headed bits id limit (as_header x) t)
  at_header bits h (got f u) e =
      at_fields bits f u.position.0 h (gains_fields.gains d (rest bits at) e) (within d (rest bits at) h (sym (ap as_header e)))
  at_header bits h (refused r u) e = at_broken bits false t h

  pub moves : at ≤ data_bits d → Moves (data_bits d) at (next_bunch limit d id at t)
  unfolding next_bunch
  moves h = no_bytes (eqb (length d) 0) refl
    where
      header : (b : Bool) → leb (data_bits d) at ≡ b → Moves (data_bits d) at (cond b (ended_at (data_bits d) t) (headed (data_bits d) id limit (as_header (fields d (rest (data_bits d) at))) t))
      header true e = at_end (data_bits d) h
      header false e = at_header (data_bits d) h (fields d (rest (data_bits d) at)) refl

      unmarked : (b : Bool) → eqb (last_byte d) 0 ≡ b
          → Moves (data_bits d) at (cond b (malformed_at 0 false t) (cond (leb (data_bits d) at) (ended_at (data_bits d) t) (headed (data_bits d) id limit (as_header (fields d (rest (data_bits d) at))) t)))
      unmarked true e = let z = unmarked_bits d e in rw z (at_broken 0 false t (rw z at h))
      unmarked false e = header (leb (data_bits d) at) refl

      no_bytes : (b : Bool) → eqb (length d) 0 ≡ b
          → Moves (data_bits d) at (cond b (ended_at 0 t) (cond (eqb (last_byte d) 0) (malformed_at 0 false t) (cond (leb (data_bits d) at) (ended_at (data_bits d) t) (headed (data_bits d) id limit (as_header (fields d (rest (data_bits d) at))) t))))
      no_bytes true e = let z : data_bits d ≡ 0 = omega (arith, bits_most d, eqb-true (length d) 0 e) in rw z (at_end 0 (rw z at h))
      no_bytes false e = unmarked (eqb (last_byte d) 0) refl
