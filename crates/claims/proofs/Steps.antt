-- A reading call on marked data: at a header that reads, with its payload before the data's end, it answers that bunch; at the
-- data's end it answers the end.
use Prim.Native.Nat.{ℕ, ◌+◌, ◌-◌, ◌≤◌, ◌<◌}
use mathlib.Core.Path.{◌≡◌, ap}
use mathlib.Core.List.{List}
use native.Mathlib.Omega.{arith}
use borrow.Author.Tests.{le-leb, lt-leb, le-ltb}
use Rattle.packet_header.specs.declared.BunchFields.{BunchFields}
use Rattle.packet_header.specs.Header.{readable, as_header, fields}
use Rattle.packet_tracking.specs.Sequences.{Numbered, numbered}
use Rattle.packet_tracking.specs.Partials.{Tracked, tracking}
use Rattle.packet_reading.specs.Packet.{ReaderTables, Read, bunch, end, header, payload_window, rest, whole, next_bunch}
use Rattle.claims.proofs.Marks.{Marked}

module _ (limit id : ℕ) (t : ReaderTables) (d : List ℕ) {bits : ℕ} (m : Marked d bits) where
  pub at_end : (next_bunch limit d id bits t).outcome ≡ end
  unfolding next_bunch
  at_end = rw (m.some, m.marked, m.data_end, le-leb bits bits (omega arith))

  module _ (at : ℕ) (before : at < bits) (f : BunchFields) (from : ℕ) (reads : as_header (fields d (rest bits at)) ≡ readable f from)
      (fits : from + f.payload_bit_count ≤ bits) where
    abbrev n : Numbered
    n = numbered limit id f t.sequences

    abbrev k : Tracked
    k = tracking limit f n.sequence n.limited t.partials

    is_whole : next_bunch limit d id at t ≡ whole f id from n k t.partials
    unfolding next_bunch
    is_whole = rw (m.some, m.marked, m.data_end, lt-leb bits at before, reads, le-ltb (bits - from) f.payload_bit_count (omega arith))

    pub at_bunch : (next_bunch limit d id at t).outcome ≡ bunch (header f id from n.sequence n.limited k.error k.completed) (payload_window from f.payload_bit_count)
    unfolding whole
    at_bunch = ap (λ (x : Read). x.outcome) is_whole

    pub past_bunch : (next_bunch limit d id at t).next ≡ from + f.payload_bit_count
    unfolding whole
    past_bunch = ap (λ (x : Read). x.next) is_whole
