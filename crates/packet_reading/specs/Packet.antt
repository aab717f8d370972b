-- Document 01's "A packet": what a reading call answers at a cursor.
use Rattle.std.specs.Prelude.{ℕ, ◌+◌, ◌*◌, ◌-◌, Bool, true, false, not, ◌&&◌, cond, List, [], eqb, leb, ltb, length, get_or, None}
use Rattle.std.specs.Int.Count.{count_leading_zeros}
use mir.Val.{bool_byte}
use Rattle.bitio_window.specs.declared.Window.{Window}
use Rattle.bitio_bits.specs.Floats.{signed}
use Rattle.tables.specs.Tables.{Table, without}
use Rattle.types.specs.declared.RawBunchHeader.{RawBunchHeader}
use Rattle.types.specs.Types.{reason_of}
use Rattle.packet_header.specs.declared.BunchFields.{BunchFields}
use Rattle.packet_header.specs.Header.{Header, unreadable, readable, as_header, fields}
use Rattle.packet_tracking.specs.Sequences.{Numbered, numbered}
use Rattle.types.specs.Continuing.{Partial}
use Rattle.packet_tracking.specs.Partials.{Tracked, tracking, effected, in_flight}

-- the reader's two tables
pub record ReaderTables : Type 0 where
  pub sequences : Table ℕ
  pub partials : Table Partial

abbrev pub empty_tables : ReaderTables
empty_tables = record { sequences = []; partials = [] }

pub data Outcome : Type 0 where
  bunch : RawBunchHeader → Window → Outcome
  end : Outcome
  malformed : Outcome

-- "one bunch, the end or malformed, the next cursor, and by how much the Rust's counts rise"; and the tables before and after a
-- close retires its channel
pub record Read : Type 0 where
  pub outcome : Outcome
  pub next : ℕ
  pub bunches : ℕ
  pub malformed_packets : ℕ
  pub partial_errors : ℕ
  pub channel_limits : ℕ
  pub held : ReaderTables
  pub channels : ReaderTables

abbrev pub last_byte : List ℕ → ℕ
last_byte d = get_or d (length d - 1) 0

-- "the highest set bit of the last byte, found by counting its leading zeros, is the end mark; bits before it are data"; "bit 0
-- without an end mark"
unfoldable pub data_bits : List ℕ → ℕ
data_bits d = cond (eqb (last_byte d) 0) 0 (8 * length d - 1 - count_leading_zeros 8 (last_byte d))

-- the data from bit `at` on
abbrev pub rest : ℕ → ℕ → Window
rest bits at = record { start = record { 0 = 0 }; position = record { 0 = at }; length = bits }

-- "after the end or malformed it stands at the data's end"
abbrev pub ended_at : ℕ → ReaderTables → Read
ended_at bits t =
    record {
      outcome = end;
      next = bits;
      bunches = 0;
      malformed_packets = 0;
      partial_errors = 0;
      channel_limits = 0;
      held = t;
      channels = t;
    }

abbrev pub malformed_at : ℕ → Bool → ReaderTables → Read
malformed_at bits limited t =
    record {
      outcome = malformed;
      next = bits;
      bunches = 0;
      malformed_packets = 1;
      partial_errors = 0;
      channel_limits = bool_byte limited;
      held = t;
      channels = t;
    }

abbrev pub header : BunchFields → ℕ → ℕ → ℕ → Bool → Bool → Bool → RawBunchHeader
header f id at sequence limited error completed =
    record {
      packet_id = signed id;
      ch_index = f.ch_index;
      b_open = f.b_open;
      b_close = f.b_close;
      b_dormant = eqb f.close_reason 1;
      b_is_replication_paused = f.b_is_replication_paused;
      b_reliable = f.b_reliable;
      b_partial = f.b_partial;
      b_partial_initial = f.b_partial_initial;
      b_partial_final = f.b_partial_final;
      b_has_package_map_exports = f.b_has_package_map_exports;
      b_has_must_be_mapped_guids = f.b_has_must_be_mapped_guids;
      ch_sequence = signed sequence;
      close_reason = reason_of f.close_reason;
      payload_bit_count = f.payload_bit_count;
      payload_bit_offset = at;
      has_partial_error = error;
      partial_error_kind = None;
      is_partial_completed = completed;
      has_channel_limit_error = limited;
    }

-- "A close that isn't dormant then retires the channel from both tables."
abbrev pub tables_retired : Bool → ℕ → ReaderTables → ReaderTables
tables_retired true c t = record { sequences = without c t.sequences; partials = without c t.partials }
tables_retired false c t = t

abbrev pub retires : BunchFields → Bool
retires f = f.b_close && not (eqb f.close_reason 1)

-- the payload's window, its place counted both ways
abbrev pub payload_window : ℕ → ℕ → Window
payload_window at n = record { start = record { 0 = at }; position = record { 0 = 0 }; length = n }

-- the tables with a bunch's sequence stored and its fragment tracked
abbrev pub tables_holding : BunchFields → Numbered → Tracked → Table Partial → ReaderTables
tables_holding f n k t = record { sequences = n.table; partials = effected k.effect f.ch_index (in_flight f n.sequence) t }

-- a header that was read, its payload from bit `at` on
unfoldable pub whole : BunchFields → ℕ → ℕ → Numbered → Tracked → Table Partial → Read
whole f id at n k t =
    let tables = tables_holding f n k t in
    record {
      outcome = bunch (header f id at n.sequence n.limited k.error k.completed) (payload_window at f.payload_bit_count);
      next = at + f.payload_bit_count;
      bunches = 1;
      malformed_packets = 0;
      partial_errors = bool_byte k.error;
      channel_limits = bool_byte n.limited;
      held = tables;
      channels = tables_retired (retires f) f.ch_index tables;
    }

-- "The sequence is stored and the limit count raised before the payload is compared with what remains; an overrun makes the
-- packet malformed and undoes neither."
abbrev pub compared : ℕ → BunchFields → ℕ → ℕ → ℕ → Numbered → Table Partial → Read
compared bits f id at limit n t =
    cond (ltb (bits - at) f.payload_bit_count)
    (malformed_at bits n.limited (record { sequences = n.table; partials = t }))
    (whole f id at n (tracking limit f n.sequence n.limited t) t)

abbrev pub headed : ℕ → ℕ → ℕ → Header → ReaderTables → Read
headed bits id limit unreadable t = malformed_at bits false t
headed bits id limit (readable f at) t = compared bits f id at limit (numbered limit id f t.sequences) t.partials

-- "Empty: no bunches, not malformed. Last byte 0: malformed." "Until data ends", a header
unfoldable pub next_bunch : ℕ → List ℕ → ℕ → ℕ → ReaderTables → Read
next_bunch limit d id at t =
    let bits = data_bits d in
    cond (eqb (length d) 0) (ended_at 0 t)
    (cond (eqb (last_byte d) 0) (malformed_at 0 false t)
    (cond (leb bits at) (ended_at bits t)
    (headed bits id limit (as_header (fields d (rest bits at))) t)))
