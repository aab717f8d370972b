-- What a header takes at least: the reads that every header has come to 29 bits.
use mathlib.Core.Path.{◌≡◌, refl}
use mathlib.Core.Bool.{false, ◌||◌}
use mathlib.Core.List.{List}
use Prim.Native.Nat.{ℕ, ◌+◌, ◌-◌, ◌≤◌}
use native.Mathlib.Decide.{dec_le}
use native.Mathlib.Omega.{arith}
use lib.Count.{count_leading_zeros}
use Rattle.bitio_window.specs.declared.Window.{Window}
use Rattle.bitio_window.specs.Parse.{Answer, got, refused, Parse, and_then, ◌>>=◌, advanced}
use Rattle.bitio_window.specs.Reads.{bits, bit}
use Rattle.bitio_window.specs.Numbers.{packed, log2, serialized}
use Rattle.bitio_window.proofs.Rows.{not_refused}
use Rattle.bitio_window.proofs.Steps.{bits_short, bits_there}
use Rattle.bitio_window.proofs.Keeps.{Keeps, keeps_then, keeps_give, keeps_if, keeps_bits}
use Rattle.bitio_window.proofs.NumbersKeep.{keeps_packed, keeps_serialized, packed_reads}
use Rattle.types.specs.Types.{close_reason_maximum, payload_maximum}
use Rattle.packet_header.specs.Header.{fields}

pub record Gains {A : Type 0} (n : ℕ) (p : Parse A) : Type 0 where
  pub gains : (d : List ℕ) (w : Window) {a : A} {u : Window} → p d w ≡ got a u → w.position.0 + n ≤ u.position.0

module _ {A : Type 0} where
  some : {p : Parse A} → Keeps p → Gains 0 p
  some f = record { gains = λ d w e. let s = (f.keeps d w).on in let h = (rw e at s) in omega (arith, h) }

  module _ {B : Type 0} where
    then_gains : (m n : ℕ) (x : Answer A) (k : A → Window → Answer B) (w : ℕ) {b : B} {v : Window}
        → ((a : A) (u : Window) → x ≡ got a u → w + m ≤ u.position.0)
        → ((a : A) (u : Window) → k a u ≡ got b v → u.position.0 + n ≤ v.position.0)
        → and_then x k ≡ got b v → w + (m + n) ≤ v.position.0
    then_gains m n (got a u) k w f g e = omega (arith, f a u refl, g a u e)
    then_gains m n (refused r u) k w f g e = absurd (not_refused e)

    -- n is what the reads after p take at least
    then : (n : ℕ) {m : ℕ} {p : Parse A} {k : A → Parse B} → Gains m p → ((a : A) → Gains n (k a)) → Gains (m + n) (p >>= k)
    unfolding ◌>>=◌
    then n {m} {p} {k} f g =
        record { gains = λ d w e. then_gains m n (p d w) (λ a. k a d) w.position.0 (λ a u q. f.gains d w q) (λ a u q. (g a).gains d u q) e }

gains_bits : (n : ℕ) → Gains n (bits n)
gains_bits n = record { gains = λ d w e. go d w e (dec_le n (w.length - w.position.0)) }
  where
    go : (d : List ℕ) (w : Window) {a : ℕ} {u : Window} → bits n d w ≡ got a u → Dec (n ≤ w.length - w.position.0) → w.position.0 + n ≤ u.position.0
    go d w {a} {u} e (yes h) =
        let q : advanced w n ≡ u = cc (e, bits_there d w n h) in
        rw (← q) (omega arith)
    go d w e (no h) = absurd (not_refused (rw (bits_short d w n (omega arith)) at e))

gains_bit : Gains 1 bit
unfolding bit
gains_bit = then 0 (gains_bits 1) (λ v. some (keeps_give _))

gains_packed : Gains 8 packed
gains_packed = record { gains = λ d w e. packed_reads d w e }

gains_count : Gains 14 (serialized payload_maximum)
unfolding serialized log2 count_leading_zeros
gains_count = then 0 (gains_bits 14) (λ v. some (keeps_then (keeps_if _ 0 (keeps_bits 1)) (λ t. keeps_give _)))

keeps_bit : Keeps bit
unfolding bit
keeps_bit = keeps_then (keeps_bits 1) (λ v. keeps_give _)

pub gains_fields : Gains 29 fields
unfolding fields
gains_fields =
    then 28 gains_bit (λ control. then 28 (some (keeps_if control false keeps_bit)) (λ opens. then 28 (some (keeps_if control false keeps_bit))
    (λ closes. then 28 (some (keeps_if closes 0 (keeps_serialized close_reason_maximum))) (λ reason. then 27 gains_bit (λ paused. then 26 gains_bit
    (λ reliable. then 18 gains_packed (λ channel. then 17 gains_bit (λ exports. then 16 gains_bit (λ mapped. then 15 gains_bit
    (λ partial. then 14 gains_bit (λ ignored. then 14 (some (keeps_if partial false keeps_bit)) (λ initial. then 14 (some (keeps_if partial false keeps_bit))
    (λ final. then 14 (some (keeps_if (reliable || opens) false keeps_bit)) (λ hardcoded. then 14 (some (keeps_if (reliable || opens) 0 keeps_packed))
    (λ name. then 0 gains_count (λ count. some (keeps_give _)))))))))))))))))
