-- One record, by what its reads gave.
use mathlib.Core.Path.{◌≡◌}
use mathlib.Core.List.{List}
use Prim.Native.Nat.{ℕ, ◌-◌, ◌≤◌, ◌<◌, max}
use borrow.Author.Tests.{lt-ltb, le-ltb, le-leb, lt-leb, eq-eqb, ne_eqb}
use Rattle.bitio_window.specs.Places.{packet_bit}
use Rattle.bitio_window.specs.declared.Window.{Window}
use Rattle.bitio_window.specs.Refusals.{Refusal}
use Rattle.bitio_window.specs.Parse.{got, refused, ◌>>=◌, give, read_if, advanced}
use Rattle.bitio_window.specs.Numbers.{packed, serialized}
use Rattle.bitio_window.proofs.Rows.{then_refused}
use Rattle.field_walking.specs.Records.{ends, abandons, finds, remaining, payload, counted, rep_layout, call, class_net_cache}

module _ (d : List ℕ) (w : Window) {u : Window} where
  module _ (h : ℕ) where
    pub counted_refused : {e : Refusal} → packed d w ≡ refused e u → counted h d w ≡ refused e u
    unfolding counted
    counted_refused e = then_refused d w packed _ e

    pub overlong : {n : ℕ} → packed d w ≡ got n u → u.length - u.position.0 < n → counted h d w ≡ got abandons u
    unfolding counted remaining ◌>>=◌ read_if give
    overlong {n} e f = rw (e, lt-leb n (u.length - u.position.0) f)

    pub whole : {n : ℕ} → packed d w ≡ got n u → n ≤ u.length - u.position.0
        → counted h d w ≡ got (finds (record { handle = h; bit_count = n; in_window = u.position; in_packet = packet_bit u })) (advanced u n)
    unfolding counted remaining payload ◌>>=◌ read_if
    whole {n} e f = rw (e, le-leb n (u.length - u.position.0) f)

  pub rep_refused : {e : Refusal} → packed d w ≡ refused e u → rep_layout d w ≡ refused e u
  unfolding rep_layout
  rep_refused e = then_refused d w packed _ e

  pub rep_ends : {c : ℕ} → packed d w ≡ got c u → c ≡ 0 → rep_layout d w ≡ got ends u
  unfolding rep_layout ◌>>=◌ read_if give
  rep_ends {c} e z = rw (e, eq-eqb c 0 z)

  pub rep_goes_on : {c : ℕ} → packed d w ≡ got c u → (c ≡ 0 → ⊥) → rep_layout d w ≡ counted (c - 1) d u
  unfolding rep_layout ◌>>=◌ read_if
  rep_goes_on {c} e z = rw (e, ne_eqb c 0 z)

  module _ (m : ℕ) where
    pub call_refused : {e : Refusal} → serialized m d w ≡ refused e u → call m d w ≡ refused e u
    unfolding call
    call_refused e = then_refused d w (serialized m) _ e

    pub call_abandons : {h : ℕ} → serialized m d w ≡ got h u → u.length - u.position.0 < 8 → call m d w ≡ got abandons u
    unfolding call remaining ◌>>=◌ read_if give
    call_abandons e f = rw (e, lt-leb 8 (u.length - u.position.0) f)

    pub call_goes_on : {h : ℕ} → serialized m d w ≡ got h u → 8 ≤ u.length - u.position.0 → call m d w ≡ counted h d u
    unfolding call remaining ◌>>=◌ read_if
    call_goes_on e f = rw (e, le-leb 8 (u.length - u.position.0) f)

module _ (d : List ℕ) (w : Window) (m : ℕ) where
  pub calls_end : w.length - w.position.0 ≤ 0 → class_net_cache m d w ≡ got ends w
  unfolding class_net_cache remaining ◌>>=◌ read_if give
  calls_end h = rw (le-ltb 0 (w.length - w.position.0) h)

  pub calls_go_on : 0 < w.length - w.position.0 → class_net_cache m d w ≡ call (max m 2) d w
  unfolding class_net_cache remaining ◌>>=◌ read_if
  calls_go_on h = rw (lt-ltb 0 (w.length - w.position.0) h)
