-- Making a window, and moving in it without reading.
use Rattle.std.specs.Prelude.{ℕ, ◌*◌, ◌-◌, Bool, cond, List, ltb, leb, length}
use Rattle.bitio_window.specs.declared.Window.{Window}
use Rattle.bitio_window.specs.Places.{packet_bit}
use Rattle.bitio_window.specs.Refusals.{too_long, beyond}
use Rattle.bitio_window.specs.Parse.{Result, value, refusal, got, Parse, ◌>>◌, advanced}
use Rattle.bitio_window.specs.Reads.{largest_data, sound, need, skip}

abbrev pub window_at : ℕ → ℕ → ℕ → Window
window_at start position size = record { start = record { 0 = start }; position = record { 0 = position }; length = size }

-- the first n bits of the data
abbrev pub front : ℕ → Window
front n = window_at 0 0 n

-- "7+ data above 67,108,864 bytes: length"
unfoldable pub new_window : List ℕ → Result Window
new_window d = cond (ltb largest_data (length d)) (refusal (too_long (length d))) (value (front (8 * length d)))

-- "5 window longer than its data …: requested, available bits"
unfoldable pub with_bit_len : List ℕ → ℕ → Result Window
with_bit_len d n =
    cond (ltb largest_data (length d)) (refusal (too_long (length d)))
    (cond (ltb (8 * length d) n) (refusal (beyond n (8 * length d))) (value (front n)))

-- "a cursor past its window, 5 with its place and the window's length"
unfoldable pub bits_remaining : Window → Result ℕ
bits_remaining w =
    cond (ltb w.length w.position.0) (refusal (beyond w.position.0 w.length)) (value (w.length - w.position.0))

unfoldable pub at_end : Window → Bool
at_end w = leb w.length w.position.0

-- a window over the next n bits, which the reader passes
abbrev pub child : Window → ℕ → Window
child w n = record { start = packet_bit w; position = record { 0 = 0 }; length = n }

unfoldable pub handed_out : ℕ → Parse Window
handed_out n d w = got (child w n) (advanced w n)

unfoldable pub sub : ℕ → Parse Window
sub n = do
  need n
  handed_out n

unfoldable pub sub_reader : ℕ → Parse Window
sub_reader n = do
  sound
  sub n

unfoldable pub skip_bits : ℕ → Parse Unit
skip_bits n = do
  sound
  skip n

-- the same window, with the reader at its end
abbrev pub moved_to_end : Window → Window
moved_to_end w = record { start = w.start; position = record { 0 = w.length }; length = w.length }

unfoldable pub skipped_to_end : Parse Unit
skipped_to_end d w = got tt (moved_to_end w)

unfoldable pub skip_remaining : Parse Unit
skip_remaining = do
  sound
  skipped_to_end
