-- What each read of a given width means, by document 01's "Bits and numbers" and its rules of refusing.
use Rattle.std.specs.Prelude.{ℕ, ◌*◌, ◌-◌, Bool, length, ltb, eqb, ℤ}
use Rattle.std.specs.Float.{binary32, binary64}
use Rattle.bitio_bits.specs.Bits.{bits_at}
use Rattle.bitio_window.specs.Places.{packet_bit}
use Rattle.bitio_window.specs.Refusals.{place_of, too_few_bits, beyond, too_wide, too_long}
use Rattle.bitio_bits.specs.Floats.{Decoded, decoded, signed}
use Rattle.bitio_window.specs.Parse.{got, Parse, ◌>>=◌, ◌>>◌, give, refuse_if, advanced}

-- "7+ data above 67,108,864 bytes"
abbrev pub largest_data : ℕ
largest_data = 67108864

unfoldable pub data_fits : Parse Unit
data_fits d = refuse_if (ltb largest_data (length d)) (too_long (length d)) d

-- "A window past its data is 5, with its length and the data bits from its start (0 if none)"
unfoldable pub window_fits : Parse Unit
window_fits d w =
    let there : ℕ = 8 * length d - w.start.0 in
    refuse_if (ltb there w.length) (beyond w.length there) d w

-- "next a cursor past its window, 5 with its place and the window's length"
unfoldable pub cursor_fits : Parse Unit
cursor_fits d w = refuse_if (ltb w.length w.position.0) (beyond w.position.0 w.length) d w

-- "In a read, copy or walk 7 comes first, then 5"
unfoldable pub sound : Parse Unit
sound = do
  data_fits
  window_fits
  cursor_fits

-- "1 too few bits: position, length, bits requested", with the reader "at its reported position"
unfoldable pub need : ℕ → Parse Unit
need n d w = refuse_if (ltb (w.length - w.position.0) n) (too_few_bits (place_of w) w.length n) d w

-- the next n bits as a number, and the reader past them. "Width 0 reads nothing, even at the end."
unfoldable pub bits_taken : ℕ → Parse ℕ
bits_taken n d w = got (bits_at d (packet_bit w).0 n) (advanced w n)

unfoldable pub bits : ℕ → Parse ℕ
bits n = do
  need n
  bits_taken n

unfoldable pub passed : ℕ → Parse Unit
passed n d w = got tt (advanced w n)

unfoldable pub skip : ℕ → Parse Unit
skip n = do
  need n
  passed n

unfoldable pub bit : Parse Bool
bit = do
  v ← bits 1
  give (eqb v 1)

-- "7 comes first, then 5, 6, 4, 15, then 1": the public calls
unfoldable pub read_bits : ℕ → Parse ℕ
read_bits n = do
  sound
  refuse_if (ltb 64 n) (too_wide n)
  bits n

unfoldable pub read_bit : Parse Bool
read_bit = do
  sound
  bit

unfoldable pub read_i32 : Parse ℤ
read_i32 = do
  v ← read_bits 32
  give (signed v)

unfoldable pub read_f32 : Parse Decoded
read_f32 = do
  v ← read_bits 32
  give (decoded binary32 v)

unfoldable pub read_f64 : Parse Decoded
read_f64 = do
  v ← read_bits 64
  give (decoded binary64 v)
