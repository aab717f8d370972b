-- What the bits of a bunch header say, in document 01's order.
use Rattle.std.specs.Prelude.{ℕ, false, ◌||◌}
use Rattle.bitio_window.specs.Parse.{Answer, got, refused, Parse, ◌>>=◌, give, read_if}
use Rattle.bitio_window.specs.Reads.{bit}
use Rattle.bitio_window.specs.Numbers.{packed, serialized}
use Rattle.types.specs.Types.{close_reason_maximum, payload_maximum}
use Rattle.packet_header.specs.declared.BunchFields.{BunchFields}

-- "control; if set, open, close; if close, a serialized reason …; paused; reliable; packed channel; exports; must-be-mapped;
-- partial; an ignored bit; if partial, initial, final; if reliable or open, an ignored bit and an ignored packed number;
-- payload count"
unfoldable pub fields : Parse BunchFields
fields = do
  control ← bit
  opens ← read_if control false bit
  closes ← read_if control false bit
  reason ← read_if closes 0 (serialized close_reason_maximum)
  paused ← bit
  reliable ← bit
  channel ← packed
  exports ← bit
  mapped ← bit
  partial ← bit
  ignored ← bit
  initial ← read_if partial false bit
  final ← read_if partial false bit
  hardcoded ← read_if (reliable || opens) false bit
  name ← read_if (reliable || opens) 0 packed
  count ← serialized payload_maximum
  give (record {
    b_open = opens;
    b_close = closes;
    close_reason = reason;
    b_is_replication_paused = paused;
    b_reliable = reliable;
    ch_index = channel;
    b_has_package_map_exports = exports;
    b_has_must_be_mapped_guids = mapped;
    b_partial = partial;
    b_partial_initial = initial;
    b_partial_final = final;
    payload_bit_count = count;
  })

-- a header and where its payload begins; one that doesn't read says nothing more
pub data Header : Type 0 where
  unreadable : Header
  readable : BunchFields → ℕ → Header

abbrev pub as_header : Answer BunchFields → Header
as_header (got f u) = readable f u.position.0
as_header (refused e u) = unreadable
