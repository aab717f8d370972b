-- A bunch is read back from its bits, at any cursor: its header by the row of reads, and then its payload stands there.
use Prim.Native.Nat.{ℕ, ◌+◌, ◌*◌, ◌-◌, ◌≤◌, ◌<◌}
use mathlib.Core.Path.{◌≡◌, sym, ap, ◌∙◌}
use mathlib.Core.List.{List}
use native.Mathlib.Omega.{arith}
use lib.ListN.{length, length-append}
use Rattle.bitio_window.specs.declared.Window.{Window}
use Rattle.bitio_window.specs.Parse.{got, advanced}
use Rattle.types.specs.declared.RawBunchHeader.{RawBunchHeader}
use Rattle.packet_header.specs.Header.{fields}
use Rattle.writer_spelling.specs.Bits.{bits_from, put_bits}
use Rattle.writer_spelling.specs.Header.{fields_of, front_bits, header_bits, bunch_bits}
use Rattle.writer_spelling.proofs.Lists.{length_bits_from}
use Rattle.writer_spelling.proofs.Reading.{in_a_row}
use Rattle.writer_spelling.proofs.Headers.{Sayable, reads_header}
use Rattle.writer.proofs.Puts.{bits_put_are_there}

-- at the window's cursor the header's fields are read, and after it stands the payload
pub record BunchBack (h : RawBunchHeader) (payload : List ℕ) (count : ℕ) (d : List ℕ) (w : Window) : Type 0 where
  pub header : fields d w ≡ got (fields_of h count) (advanced w (length (header_bits (fields_of h count))))
  pub payload_there : bits_from d (w.start.0 + w.position.0 + length (header_bits (fields_of h count))) count ≡ bits_from payload 0 count

module _ (h : RawBunchHeader) (payload : List ℕ) (count : ℕ) where
  pub length_bunch : length (bunch_bits h payload count) ≡ length (header_bits (fields_of h count)) + count
  unfolding bunch_bits
  length_bunch = length-append (header_bits (fields_of h count)) (bits_from payload 0 count) ∙ ap (λ (n : ℕ). length (header_bits (fields_of h count)) + n) (length_bits_from payload 0 count)

  pub bunch_has_bits : 0 < length (bunch_bits h payload count)
  unfolding bunch_bits header_bits front_bits
  bunch_has_bits = omega arith

  module _ (s : Sayable (fields_of h count)) where
    pub bunch_reads : (d : List ℕ) (w : Window) → bits_from d (w.start.0 + w.position.0) (length (bunch_bits h payload count)) ≡ bunch_bits h payload count
        → length (bunch_bits h payload count) ≤ w.length - w.position.0 → BunchBack h payload count d w
    unfolding bunch_bits
    bunch_reads d w e l =
        let bs = header_bits (fields_of h count) in
        let there = in_a_row d (w.start.0 + w.position.0) bs (bits_from payload 0 count) e in
        record {
          header = (reads_header (fields_of h count) s).back d w there.0 (omega (arith, length_bunch));
          payload_there = ap (bits_from d (w.start.0 + w.position.0 + length bs)) (sym (length_bits_from payload 0 count)) ∙ there.1;
        }

    -- what the writer put at a cursor
    pub put_reads : (p : List ℕ) (at : ℕ) (w : Window) → at + length (bunch_bits h payload count) ≤ 8 * length p → w.start.0 + w.position.0 ≡ at
        → length (bunch_bits h payload count) ≤ w.length - w.position.0 → BunchBack h payload count (put_bits p at (bunch_bits h payload count)) w
    put_reads p at w room e l =
        bunch_reads (put_bits p at (bunch_bits h payload count)) w (rw e (bits_put_are_there p at (bunch_bits h payload count) room)) l
