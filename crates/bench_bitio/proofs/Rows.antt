-- A row of calls in progress: what is still to come is what the whole comes to.
use Rattle.std.proofs.Common.{◌≡◌, ℕ, suc, ◌+◌, ◌-◌, ◌%◌, ◌^◌, ◌<◌, ◌≤◌, List, length, get_or, sym, ap, ◌∙◌, arith}
use native.Mathlib.Nat.{sub-zero}
use Rattle.bitio_window.specs.declared.Window.{Window}
use Rattle.bitio_window.specs.Places.{packet_bit}
use Rattle.bitio_window.specs.Refusals.{Refusal}
use Rattle.bitio_window.specs.Parse.{got, refused, Parse, give}
use Rattle.bitio_window.specs.Copies.{copied, copy_bits}
use Rattle.bitio_window.proofs.Rows.{then_got, then_refused, next_got, next_refused}
use Rattle.bench_bitio.specs.Sums.{calls, plus, Made, one_more, copy_over, copies_made}

-- after k of n calls, with the state and the window that they left
pub record Row {S : Type 0} (call : ℕ → S → Parse S) (n : ℕ) (d : List ℕ) (whole : S) (k : ℕ) (s : S) (w : Window) : Type 0 where
  pub to_come : calls call (n - k) k d s w ≡ whole

module _ {S : Type 0} {call : ℕ → S → Parse S} {n : ℕ} {d : List ℕ} where
  pub begin : {s : S} {w : Window} → Row call n d (calls call n 0 d s w) 0 s w
  begin {s} {w} = record { to_come = ap (λ (m : ℕ). calls call m 0 d s w) (sub-zero n) }

  module _ {whole s : S} {k : ℕ} {w : Window} (row : Row call n d whole k s w) where
    pub finish : n ≤ k → s ≡ whole
    unfolding calls
    finish h =
        let none : n - k ≡ 0 = omega arith in
        ap (λ (m : ℕ). calls call m k d s w) (sym none) ∙ row.to_come

    pub next : k < n → {t : S} {u : Window} → call k s d w ≡ got t u → Row call n d whole (k + 1) t u
    unfolding calls
    next h {t} {u} e =
        let one : calls call (suc (n - (k + 1))) k d s w ≡ calls call (n - (k + 1)) (k + 1) d t u = rw e in
        let less : n - k ≡ suc (n - (k + 1)) = omega arith in
        record { to_come = sym one ∙ ap (λ (m : ℕ). calls call m k d s w) (sym less) ∙ row.to_come }

    pub stop : k < n → {e : Refusal} {u : Window} → call k s d w ≡ refused e u → s ≡ whole
    unfolding calls
    stop h e =
        let one : calls call (suc (n - (k + 1))) k d s w ≡ s = rw e in
        let less : n - k ≡ suc (n - (k + 1)) = omega arith in
        sym one ∙ ap (λ (m : ℕ). calls call m k d s w) (sym less) ∙ row.to_come

-- a sum in progress
pub record Summing {A : Type 0} (number : A → ℕ) (read : ℕ → Parse A) (n : ℕ) (d : List ℕ) (whole k sum : ℕ) (w : Window) : Type 0 where
  pub row : Row (λ i. plus number (read i)) n d whole k sum w

module _ {A : Type 0} {number : A → ℕ} {read : ℕ → Parse A} {n : ℕ} {d : List ℕ} where
  pub no_sum : {w : Window} → Summing number read n d (calls (λ i. plus number (read i)) n 0 d 0 w) 0 0 w
  no_sum = record { row = begin }

  module _ {whole k sum : ℕ} {w : Window} (s : Summing number read n d whole k sum w) where
    pub summed : n ≤ k → sum ≡ whole
    summed h = finish s.row h

    pub adds : k < n → {v : A} {u : Window} → got v u ≡ read k d w → Summing number read n d whole (k + 1) ((sum + number v) % 2 ^ 64) u
    unfolding plus give
    adds h e = record { row = next s.row h (then_got d w (read k) (λ v. give ((sum + number v) % 2 ^ 64)) (sym e)) }

    pub ends : k < n → {e : Refusal} {u : Window} → refused e u ≡ read k d w → sum ≡ whole
    unfolding plus
    ends h e = stop s.row h (then_refused d w (read k) (λ v. give ((sum + number v) % 2 ^ 64)) (sym e))

-- copies in progress
abbrev made : ℕ → List ℕ → Made
made k target = record { number = k; target = target }

pub record Copying (counts d : List ℕ) (whole : Made) (k : ℕ) (target : List ℕ) (w : Window) : Type 0 where
  pub row : Row (λ i. copy_over (get_or counts i 0)) (length counts) d whole k (made k target) w

module _ {counts d : List ℕ} where
  pub no_copy : {target : List ℕ} {w : Window} → Copying counts d (copies_made counts target d w) 0 target w
  no_copy = record { row = begin }

  module _ {whole : Made} {k : ℕ} {target : List ℕ} {w : Window} (c : Copying counts d whole k target w) where
    pub copied_all : length counts ≤ k → made k target ≡ whole
    copied_all h = finish c.row h

    module _ (h : k < length counts) where
      one : Parse Unit
      one = copy_bits (length target) (get_or counts k 0)

      pub copies : {u : Window} {left : List ℕ} → got tt u ≡ copy_bits (length target) (get_or counts k 0) d w → left ≡ copied target d (packet_bit w).0 (get_or counts k 0)
          → Copying counts d whole (k + 1) left u
      unfolding copy_over one_more give one
      copies e f = record { row = rw f (next c.row h (next_got d w one (give (one_more (made k target) d (packet_bit w).0 (get_or counts k 0))) (sym e))) }

      pub stays : {e : Refusal} {u : Window} {left : List ℕ} → refused e u ≡ copy_bits (length target) (get_or counts k 0) d w → left ≡ target → made k left ≡ whole
      unfolding copy_over one
      stays e f = ap (made k) f ∙ stop c.row h (next_refused d w one (give (one_more (made k target) d (packet_bit w).0 (get_or counts k 0))) (sym e))
