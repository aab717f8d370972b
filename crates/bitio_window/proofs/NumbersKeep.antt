-- A read of a number of variable length stays in its window too, and a packed one reads at least a byte.
use mathlib.Core.Path.{◌≡◌, refl, sym, ◌∙◌}
use mathlib.Core.List.{List}
use Prim.Native.Nat.{ℕ, zero, suc, ◌+◌, ◌/◌, ◌%◌, ◌^◌, ◌≤◌}
use lib.Dec.{eqb, ltb}
use Rattle.bitio_window.specs.declared.Window.{Window}
use Rattle.bitio_window.specs.declared.Place.{Place}
use Rattle.bitio_window.specs.Refusals.{endless, too_large, place_of}
use Rattle.bitio_window.specs.Parse.{got, place}
use Rattle.bitio_window.specs.Numbers.{packed_from, packed, log2, serialized}
use Rattle.bitio_window.proofs.Rows.{then_got}
use Rattle.bitio_window.proofs.Keeps.{stays, Keeps, keeps_then, keeps_next, keeps_give, keeps_if, keeps_refuse, keeps_bits, reads_first}

pub keeps_packed_from : (n : ℕ) (p : Place) → Keeps (packed_from n p)
unfolding packed_from
keeps_packed_from zero p =
    keeps_then (keeps_bits 8) (λ b. keeps_next (keeps_refuse (eqb (b % 2) 1) (endless p)) (keeps_next (keeps_refuse (ltb 15 (b / 2)) (too_large p)) (keeps_give (b / 2))))
keeps_packed_from (suc n) p =
    keeps_then (keeps_bits 8) (λ b. keeps_then (keeps_if (eqb (b % 2) 1) 0 (keeps_packed_from n p)) (λ r. keeps_give _))

pub keeps_packed : Keeps packed
unfolding packed place
keeps_packed = keeps_then (record { keeps = λ d w. stays w }) (λ p. keeps_packed_from 4 p)

pub keeps_serialized : (m : ℕ) → Keeps (serialized m)
unfolding serialized
keeps_serialized m = keeps_then (keeps_bits (log2 m)) (λ v. keeps_then (keeps_if (ltb (v + 2 ^ log2 m) m) 0 (keeps_bits 1)) (λ t. keeps_give _))

pub packed_reads : (d : List ℕ) (w : Window) {v : ℕ} {u : Window} → packed d w ≡ got v u → w.position.0 + 8 ≤ u.position.0
unfolding packed packed_from place
packed_reads d w e =
    reads_first 8 (λ b. keeps_then (keeps_if (eqb (b % 2) 1) 0 (keeps_packed_from 3 (place_of w))) (λ r. keeps_give _)) d w
    (sym (then_got d w place (packed_from 4) refl) ∙ e)
