-- A serialized number: cut, whole without its top bit, cut before the top bit, or whole with it.
use mathlib.Core.Path.{◌≡◌, refl, ap, sym, ◌∙◌}
use mathlib.Core.List.{List}
use Prim.Native.Nat.{ℕ, ◌+◌, ◌*◌, ◌-◌, ◌^◌, ◌≤◌, ◌<◌}
use native.Mathlib.Nat.{zero-mul, mul_comm, add-zero, add_assoc}
use native.Mathlib.Omega.{arith}
use borrow.Author.Tests.{lt-ltb, le-ltb}
use Rattle.bitio_window.specs.declared.Window.{Window}
use Rattle.bitio_bits.specs.Bits.{bits_at}
use Rattle.bitio_window.specs.Refusals.{too_few_bits, place_of}
use Rattle.bitio_window.specs.Parse.{got, refused, ◌>>=◌, read_if, give, advanced}
use Rattle.bitio_window.specs.Numbers.{log2, serialized}
use Rattle.bitio_bits.proofs.Numbers.{bits_append}
use Rattle.bitio_window.proofs.Steps.{bits_short, bits_there, advanced_past}

module _ (d : List ℕ) (w : Window) (m : ℕ) {n : ℕ} (en : log2 m ≡ n) where
  pub cut : w.length - w.position.0 < n → serialized m d w ≡ refused (too_few_bits (place_of w) w.length n) w
  unfolding serialized ◌>>=◌
  cut h = rw (en, bits_short d w n h)

  module _ {v : ℕ} (ev : bits_at d (w.start.0 + w.position.0) n ≡ v) (h : n ≤ w.length - w.position.0) where
    pub without_top : m ≤ v + 2 ^ n → serialized m d w ≡ got v (advanced w n)
    unfolding serialized ◌>>=◌ read_if give
    without_top f =
        rw (en, bits_there d w n h, ev, le-ltb (v + 2 ^ n) m f)
        (let e : v + 0 * 2 ^ n ≡ v = ap (λ (y : ℕ). v + y) (zero-mul (2 ^ n)) ∙ add-zero v in ap (λ (y : ℕ). got y (advanced w n)) e)

    module _ (f : v + 2 ^ n < m) where
      pub cut_top : w.length - w.position.0 < n + 1 → serialized m d w ≡ refused (too_few_bits (place_of (advanced w n)) w.length 1) (advanced w n)
      unfolding serialized ◌>>=◌ read_if
      cut_top g = rw (en, bits_there d w n h, ev, lt-ltb (v + 2 ^ n) m f, bits_short d (advanced w n) 1 (omega arith))

      pub with_top : n + 1 ≤ w.length - w.position.0
          → serialized m d w ≡ got (bits_at d (w.start.0 + w.position.0) (n + 1)) (advanced w (n + 1))
      unfolding serialized ◌>>=◌ read_if give
      with_top g =
          let k : ℕ = w.start.0 + w.position.0 in
          let top : ℕ = bits_at d (w.start.0 + (w.position.0 + n)) 1 in
          let e : v + top * 2 ^ n ≡ bits_at d k (n + 1) =
          sym (bits_append d k n 1 ∙ ap (λ (y : ℕ). y + 2 ^ n * bits_at d (k + n) 1) ev
          ∙ ap (λ (y : ℕ). v + 2 ^ n * bits_at d y 1) (add_assoc w.start.0 w.position.0 n) ∙ ap (λ (y : ℕ). v + y) (mul_comm (2 ^ n) top)) in
          rw (en, bits_there d w n h, ev, lt-ltb (v + 2 ^ n) m f, bits_there d (advanced w n) 1 (omega arith), e)
          (ap (got (bits_at d k (n + 1))) (advanced_past w n 1 (n + 1) refl))
