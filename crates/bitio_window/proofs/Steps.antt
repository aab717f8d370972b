-- One read: short, or its bits and the window past them.
use mathlib.Core.Path.{◌≡◌, ap}
use mathlib.Core.List.{List}
use Prim.Native.Nat.{ℕ, ◌+◌, ◌-◌, ◌≤◌, ◌<◌}
use native.Mathlib.Nat.{add-zero}
use native.Mathlib.Omega.{arith}
use lib.Dec.{eqb}
use borrow.Author.Tests.{lt-ltb, le-ltb}
use Rattle.bitio_window.specs.declared.Window.{Window}
use Rattle.bitio_bits.specs.Bits.{bits_at}
use Rattle.bitio_window.specs.Refusals.{too_few_bits, place_of}
use Rattle.bitio_window.specs.Parse.{got, refused, ◌>>=◌, ◌>>◌, refuse_if, refuse, give, advanced}
use Rattle.bitio_window.specs.Reads.{need, bits_taken, passed, skip, bits, bit}
use Rattle.bitio_window.specs.Windows.{child, handed_out, sub}
use Rattle.bitio_window.specs.Sound.{Sound}

pub advanced_none : (w : Window) → advanced w 0 ≡ w
advanced_none w = ap (λ (q : ℕ). record { start = w.start; position = record { 0 = q }; length = w.length }) (add-zero w.position.0)

pub advanced_past : (w : Window) (m n p : ℕ) → m + n ≡ p → advanced (advanced w m) n ≡ advanced w p
advanced_past w m n p e =
    let f : w.position.0 + m + n ≡ w.position.0 + p = omega arith in
    ap (λ (q : ℕ). record { start = w.start; position = record { 0 = q }; length = w.length }) f

module _ (d : List ℕ) (w : Window) (n : ℕ) where
  pub bits_short : w.length - w.position.0 < n → bits n d w ≡ refused (too_few_bits (place_of w) w.length n) w
  unfolding bits need ◌>>◌ refuse_if refuse
  bits_short h = simp (lt-ltb _ _ h)

  pub bits_there : n ≤ w.length - w.position.0 → bits n d w ≡ got (bits_at d (w.start.0 + w.position.0) n) (advanced w n)
  unfolding bits need bits_taken ◌>>◌ refuse_if give
  bits_there h = simp (le-ltb _ _ h)

  pub skip_short : w.length - w.position.0 < n → skip n d w ≡ refused (too_few_bits (place_of w) w.length n) w
  unfolding skip need ◌>>◌ refuse_if refuse
  skip_short h = simp (lt-ltb _ _ h)

  pub skip_there : n ≤ w.length - w.position.0 → skip n d w ≡ got tt (advanced w n)
  unfolding skip need passed ◌>>◌ refuse_if give
  skip_there h = simp (le-ltb _ _ h)

  pub sub_short : w.length - w.position.0 < n → sub n d w ≡ refused (too_few_bits (place_of w) w.length n) w
  unfolding sub need ◌>>◌ refuse_if refuse
  sub_short h = simp (lt-ltb _ _ h)

  pub sub_there : n ≤ w.length - w.position.0 → sub n d w ≡ got (child w n) (advanced w n)
  unfolding sub need handed_out ◌>>◌ refuse_if give
  sub_there h = simp (le-ltb _ _ h)

  pub sound_past : Sound d w → n ≤ w.length - w.position.0 → Sound d (advanced w n)
  sound_past s h = record { data_within = s.data_within; window_within = s.window_within; cursor_within = omega (arith, s.cursor_within) }

module _ (d : List ℕ) (w : Window) where
  pub bit_short : w.length - w.position.0 < 1 → bit d w ≡ refused (too_few_bits (place_of w) w.length 1) w
  unfolding bit ◌>>=◌
  bit_short h = rw (bits_short d w 1 h)

  pub bit_there : 1 ≤ w.length - w.position.0 → bit d w ≡ got (eqb (bits_at d (w.start.0 + w.position.0) 1) 1) (advanced w 1)
  unfolding bit ◌>>=◌ give
  bit_there h = rw (bits_there d w 1 h)
