-- A number read at 64 bits, handed on at the width that was read, as a signed number or as a float.
use mathlib.Core.Path.{◌≡◌, ap, sym, ◌∙◌}
use mathlib.Core.List.{List}
use Prim.Native.Nat.{ℕ, ◌+◌, ◌^◌, ◌%◌, ◌<◌}
use native.Mathlib.Nat.{mod-eq_of_lt}
use lib.Dec.{ltb}
use Rattle.std.specs.Prelude.{Float, Result, Ok, Err, IsErrAnd}
use Rattle.bitio_window.specs.declared.Window.{Window}
use Rattle.bitio_window.specs.declared.BitError.{BitError}
use Rattle.bitio_window.specs.declared.Decoded.{Decoded as Pattern}
use Rattle.bitio_window.specs.Answers.{answer_of, decoded_of}
use Rattle.bitio_bits.specs.Bits.{bits_at}
use Rattle.bitio_window.specs.Refusals.{Refusal, paper, too_wide}
use Rattle.bitio_window.specs.Parse.{Parse, got, refused, ◌>>=◌, ◌>>◌, give, refuse_if}
use Rattle.bitio_window.specs.Reads.{sound, need, bits_taken, bits, read_bits}
use Rattle.bitio_bits.proofs.Numbers.{bits_lt}
use Rattle.bitio_window.proofs.Rows.{from_last, then_got, then_refused}

module _ (d : List ℕ) (w : Window) (n : ℕ) where
  pub read_lt : {v : ℕ} {u : Window} → read_bits n d w ≡ got v u → v < 2 ^ n
  unfolding read_bits bits bits_taken
  read_lt {v} {u} h =
      let wide = from_last d w sound (refuse_if (ltb 64 n) (too_wide n) >> bits n) h in
      let short = from_last d wide.0 (refuse_if (ltb 64 n) (too_wide n)) (bits n) wide.1 in
      let read = from_last d short.0 (need n) (bits_taken n) short.1 in
      let e : bits_at d (read.0.start.0 + read.0.position.0) n ≡ v = cc in
      rw e at (bits_lt d (read.0.start.0 + read.0.position.0) n)

  pub narrowed : {v : ℕ} {u : Window} → got v u ≡ read_bits n d w → got (v % 2 ^ n) u ≡ read_bits n d w
  narrowed {v} {u} told = ap (λ (x : ℕ). got x u) (mod-eq_of_lt (read_lt (sym told))) ∙ told

-- what is made of the number that a read gave
module _ {A B : Type 0} (p : Parse A) (f : A → B) (d : List ℕ) (w : Window) {u : Window} where
  pub made : {a : A} → got a u ≡ p d w → got (f a) u ≡ (p >>= (λ a. give (f a))) d w
  unfolding give
  made e = sym (then_got d w p (λ a. give (f a)) (sym e))

  pub not_made : {e : Refusal} → refused e u ≡ p d w → refused e u ≡ (p >>= (λ a. give (f a))) d w
  not_made e = sym (then_refused d w p (λ a. give (f a)) (sym e))

-- what a `?` hands on of a float's read
pub float_refused : (r : Result (Pattern Float ℕ) BitError) (e : BitError) (u : Window) → IsErrAnd r (λ x. x ≡ e) → answer_of decoded_of r u ≡ refused (paper e) u
float_refused (Ok v) e u h = absurd h
float_refused (Err x) e u h = ap (λ (y : BitError). refused (paper y) u) h
