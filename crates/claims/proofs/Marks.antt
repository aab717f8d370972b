-- The bytes of a closed packet: their last one's highest bit is the end mark, and before it stand the bits that were put.
use Prim.Native.Nat.{ℕ, suc, ◌+◌, ◌-◌, ◌/◌, ◌%◌, ◌^◌, ◌≤◌, ◌<◌}
use mathlib.Core.Path.{◌≡◌, sym, ap, ◌∙◌}
use mathlib.Core.Bool.{Bool, true, false}
use mathlib.Core.List.{List, [], ◌∷◌, ◌++◌}
use native.Mathlib.Nat.{zero-add, mod-lt, pow-suc}
use native.Mathlib.Omega.{arith}
use lib.Count.{count_leading_zeros, leading_unique}
use lib.Dec.{eqb}
use lib.ListN.{length, get_or, take}
use lib.Pow.{pow_pos}
use lib.Seq.{length-take-le, get_or-take}
use borrow.Author.Tests.{ne_eqb}
use Rattle.bitio_bits.specs.Bits.{bit_at}
use Rattle.packet_reading.specs.Packet.{last_byte, data_bits}
use Rattle.writer_spelling.specs.Bits.{bits_from, put_bits}
use Rattle.writer.specs.Answers.{room_of}
use Rattle.writer_spelling.proofs.Lists.{put_append}
use Rattle.writer.proofs.OneBit.{changed, byte_there}
use Rattle.writer_spelling.proofs.Lists.{length_put}
use Rattle.writer.proofs.Puts.{bits_put_are_there, from_before_stays, same_bits}

-- data of so many bits, and a mark after them
pub record Marked (d : List ℕ) (bits : ℕ) : Type 0 where
  pub some : eqb (length d) 0 ≡ false
  pub marked : eqb (last_byte d) 0 ≡ false
  pub data_end : data_bits d ≡ bits
  pub few : length d ≤ 65535

-- a byte whose bit a is its highest
module _ (x a : ℕ) (h : a < 8) where
  abbrev y : ℕ
  y = changed x 1 a

  at_least : 2 ^ a ≤ y
  at_least = omega arith

  less : y < 2 ^ suc a
  less = omega (arith, pow-suc 2 a, mod-lt x (pow_pos a))

  zeros : count_leading_zeros 8 y ≡ 7 - a
  zeros = sym (leading_unique 8 y (7 - a) (suc a) (omega arith) less (omega (arith, pow-suc 2 a, at_least)))

module _ (p : List ℕ) (at : ℕ) (room : at + 1 ≤ room_of p) where
  abbrev closed : List ℕ
  closed = put_bits p at (true ∷ [])

  abbrev d : List ℕ
  d = take (at / 8 + 1) closed

  size : length d ≡ at / 8 + 1
  size = length-take-le (at / 8 + 1) closed (omega (arith, length_put p at (true ∷ [])))

  last : last_byte d ≡ changed (get_or p (at / 8) 0) 1 (at % 8)
  unfolding put_bits
  last =
      let e : length d - 1 ≡ at / 8 = omega (arith, size) in
      ap (λ (i : ℕ). get_or d i 0) e ∙ get_or-take (at / 8 + 1) closed (at / 8) 0 (omega arith) ∙ byte_there p at true (omega arith)

  not_zero : eqb (last_byte d) 0 ≡ false
  not_zero = ne_eqb (last_byte d) 0 (λ e. omega (arith, last, pow_pos (at % 8)))

  mark_last : Marked d at
  unfolding data_bits
  mark_last =
      let z : count_leading_zeros 8 (last_byte d) ≡ 7 - at % 8 = ap (count_leading_zeros 8) last ∙ zeros (get_or p (at / 8) 0) (at % 8) (omega arith) in
      record {
        some = ne_eqb (length d) 0 (λ e. omega (arith, size));
        marked = not_zero;
        data_end = rw not_zero (omega (arith, size));
        few = omega (arith, size);
      }

  bits_before : (n : ℕ) → n ≤ at → bits_from d 0 n ≡ bits_from p 0 n
  unfolding bit_at
  bits_before n h =
      same_bits d closed 0 n (λ j l. ap (λ (x : ℕ). x / 2 ^ (j % 8) % 2) (get_or-take (at / 8 + 1) closed (j / 8) 0 (omega arith)))
      ∙ from_before_stays p 0 n at (true ∷ []) (omega arith)

-- a packet's bits and the end mark, as its bytes
module _ (p : List ℕ) (bits : List Bool) (room : length bits + 1 ≤ room_of p) where
  abbrev pub packet : List ℕ
  packet = take (length bits / 8 + 1) (put_bits p 0 (bits ++ (true ∷ [])))

  abbrev q : List ℕ
  q = put_bits p 0 bits

  has_room : length bits + 1 ≤ room_of q
  has_room = rw (length_put p 0 bits) room

  one_by_one : packet ≡ take (length bits / 8 + 1) (put_bits q (length bits) (true ∷ []))
  one_by_one = ap (take (length bits / 8 + 1)) (put_append p 0 bits (true ∷ []) ∙ ap (λ (k : ℕ). put_bits q k (true ∷ [])) (zero-add (length bits)))

  pub packet_marked : Marked packet (length bits)
  packet_marked = rw one_by_one (mark_last q (length bits) has_room)

  pub packet_holds : bits_from packet 0 (length bits) ≡ bits
  packet_holds = rw one_by_one (bits_before q (length bits) has_room (length bits) (omega arith) ∙ bits_put_are_there p 0 bits (omega arith))
