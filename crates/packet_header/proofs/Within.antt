-- A header that reads leaves its reader within the data.
use Prim.Native.Nat.{ℕ, ◌≤◌}
use mathlib.Core.Path.{◌≡◌, refl, sym, ap}
use mathlib.Core.Bool.{false, ◌||◌}
use mathlib.Core.List.{List}
use Rattle.bitio_window.specs.declared.Window.{Window}
use Rattle.bitio_window.specs.Parse.{Answer, got, refused}
use Rattle.bitio_window.specs.Reads.{bit}
use Rattle.bitio_window.proofs.Keeps.{Keeps, keeps_then, keeps_give, keeps_if, keeps_bits}
use Rattle.bitio_window.proofs.NumbersKeep.{keeps_packed, keeps_serialized}
use Rattle.types.specs.Types.{close_reason_maximum, payload_maximum}
use Rattle.packet_header.specs.declared.BunchFields.{BunchFields}
use Rattle.packet_header.specs.Header.{Header, unreadable, readable, as_header, fields}

keeps_bit : Keeps bit
unfolding bit
keeps_bit = keeps_then (keeps_bits 1) (λ v. keeps_give _)

keeps_fields : Keeps fields
unfolding fields
keeps_fields =
    keeps_then keeps_bit (λ control. keeps_then (keeps_if control false keeps_bit) (λ opens. keeps_then (keeps_if control false keeps_bit)
    (λ closes. keeps_then (keeps_if closes 0 (keeps_serialized close_reason_maximum)) (λ reason. keeps_then keeps_bit (λ paused. keeps_then keeps_bit
    (λ reliable. keeps_then keeps_packed (λ channel. keeps_then keeps_bit (λ exports. keeps_then keeps_bit (λ mapped. keeps_then keeps_bit
    (λ partial. keeps_then keeps_bit (λ ignored. keeps_then (keeps_if partial false keeps_bit) (λ initial. keeps_then (keeps_if partial false keeps_bit)
    (λ final. keeps_then (keeps_if (reliable || opens) false keeps_bit) (λ hardcoded. keeps_then (keeps_if (reliable || opens) 0 keeps_packed)
    (λ name. keeps_then (keeps_serialized payload_maximum) (λ count. keeps_give _))))))))))))))))

-- where the payload begins
abbrev begin : Header → ℕ
begin unreadable = 0
begin (readable f at) = at

pub within : (d : List ℕ) (w : Window) {f : BunchFields} {at : ℕ} → w.position.0 ≤ w.length → readable f at ≡ as_header (fields d w) → at ≤ w.length
within d w {f} {at} h e = go (fields d w) refl e
  where
    go : (x : Answer BunchFields) → fields d w ≡ x → readable f at ≡ as_header x → at ≤ w.length
    go (got g u) q r =
        let s = keeps_fields.keeps d w in
        let v = (rw q at s).within h in
        rw (ap begin r) (rw (sym (rw q at s).length) v)
    go (refused x u) q r = absurd (let z : ◌≡◌ {A = ℕ} 0 1 = cc in omega native.Mathlib.Omega.arith)
