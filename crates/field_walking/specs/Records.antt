-- Document 01's "Records": what stands where a record is looked for.
use Rattle.std.specs.Prelude.{ℕ, ◌-◌, max, not, ltb, leb, eqb}
use Rattle.bitio_window.specs.declared.Window.{Window}
use Rattle.bitio_window.specs.Places.{packet_bit}
use Rattle.bitio_window.specs.Parse.{got, Parse, ◌>>=◌, read_if, advanced}
use Rattle.bitio_window.specs.Numbers.{packed, serialized}
use Rattle.field_walking.specs.declared.FieldRecord.{FieldRecord}
use Rattle.field_walking.specs.declared.inner.RecordKind.{RecordKind}
use Rattle.field_walking.specs.declared.inner.Step.{Step}

-- "A record holds its handle, its bit count and its payload's start, counted both ways."
pub data Looked : Type 0 where
  ends : Looked
  abandons : Looked
  finds : FieldRecord → Looked

abbrev pub bits_left : Window → ℕ
bits_left w = w.length - w.position.0

unfoldable pub remaining : Parse ℕ
remaining d w = got (bits_left w) w

unfoldable pub payload : ℕ → ℕ → Parse Looked
payload handle n d w =
    got (finds (record { handle = handle; bit_count = n; in_window = w.position; in_packet = packet_bit w })) (advanced w n)

-- "packed count, payload"; "An overlong count abandons likewise in both."
unfoldable pub counted : ℕ → Parse Looked
counted handle = do
  n ← packed
  left ← remaining
  read_if (leb n left) abandons (payload handle n)

-- "packed handle + 1, packed count, payload; handle 0 ends"
unfoldable pub rep_layout : Parse Looked
rep_layout = do
  code ← packed
  read_if (not (eqb code 0)) ends (counted (code - 1))

-- "handle serialized …, packed count, payload"; "under 8 bits after the handle abandons"
unfoldable pub call : ℕ → Parse Looked
call m = do
  handle ← serialized m
  left ← remaining
  read_if (leb 8 left) abandons (counted handle)

-- "with maximum max(function count, 2)", "until the end"
unfoldable pub class_net_cache : ℕ → Parse Looked
class_net_cache count = do
  left ← remaining
  read_if (ltb 0 left) ends (call (max count 2))

unfoldable pub look : RecordKind → Parse Looked
look RecordKind.RepLayout = rep_layout
look (RecordKind.ClassNetCache count) = class_net_cache count

-- a step of the code in these terms
abbrev pub looked : Step → Looked
looked Step.Ends = ends
looked Step.Abandons = abandons
looked (Step.Found r) = finds r
