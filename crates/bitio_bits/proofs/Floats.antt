-- Which patterns stand for no number, over both formats.
use mathlib.Core.Path.{◌≡◌, ◌∙◌}
use mathlib.Core.Bool.{not}
use Prim.Native.Nat.{ℕ, ◌*◌, ◌%◌, ◌≤◌, ◌<◌}
use lib.Dec.{T}
use lib.Ieee.{Format, of_bits, nan_bits, ones, hid, top}
use lib.Ieee.Bits.{nan_bits_above}
use borrow.Author.Tests.{lt-ltb, le-ltb}
use Rattle.bitio_bits.specs.Floats.{number, no_number, decoded}

module _ (f : Format) (b : ℕ) where
  pub no_number_is : ones f * hid f < b % top f → decoded f b ≡ no_number b
  unfolding decoded
  no_number_is h = rw (nan_bits_above f b ∙ lt-ltb (ones f * hid f) (b % top f) h)

  module _ (h : b % top f ≤ ones f * hid f) where
    pub a_number : decoded f b ≡ number (of_bits f b)
    unfolding decoded
    a_number = rw (nan_bits_above f b ∙ le-ltb (ones f * hid f) (b % top f) h)

    pub not_nan : T (not (nan_bits f b))
    not_nan = rw (nan_bits_above f b ∙ le-ltb (ones f * hid f) (b % top f) h) tt
