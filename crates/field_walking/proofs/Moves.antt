-- A record that is found has moved the reader on, by eight bits at least: the walk ends.
use mathlib.Core.Path.{◌≡◌, refl, sym, ap, ◌∙◌}
use mathlib.Core.Bool.{Bool, true, false, not}
use mathlib.Core.List.{List}
use Prim.Native.Nat.{ℕ, ◌+◌, ◌-◌, ◌≤◌, max}
use native.Mathlib.Decide.{dec_le}
use native.Mathlib.Omega.{arith}
use borrow.Author.Tests.{le-leb, lt-leb}
use lib.Dec.{ltb, leb, eqb}
use Rattle.bitio_window.specs.declared.Window.{Window}
use Rattle.bitio_window.specs.Parse.{Answer, got, refused, Parse, and_then, ◌>>=◌, give, read_if}
use Rattle.bitio_window.specs.Numbers.{packed}
use Rattle.bitio_window.proofs.Rows.{not_refused}
use Rattle.bitio_window.proofs.Keeps.{Stays, stays, left, Keeps}
use Rattle.bitio_window.proofs.NumbersKeep.{keeps_packed, keeps_serialized, packed_reads}
use Rattle.field_walking.specs.declared.FieldRecord.{FieldRecord}
use Rattle.field_walking.specs.declared.inner.RecordKind.{RecordKind}
use Rattle.field_walking.specs.Records.{Looked, ends, abandons, finds, bits_left, remaining, payload, counted, rep_layout, call, class_net_cache, look}

pub record On (n : ℕ) (w u : Window) : Type 0 where
  pub length : u.length ≡ w.length
  pub on : w.position.0 + n ≤ u.position.0
  pub within : w.position.0 ≤ w.length → u.position.0 ≤ u.length

pub record Moves (n : ℕ) (p : Parse Looked) : Type 0 where
  pub moves : (d : List ℕ) (w : Window) {r : FieldRecord} {u : Window} → p d w ≡ got (finds r) u → On n w u

module _ {A : Type 0} {n : ℕ} where
  then_on : (x : Answer A) (k : A → Window → Answer Looked) {w u : Window} {r : FieldRecord} → Stays w (left x) → ((a : A) (v : Window) → k a v ≡ got (finds r) u → On n v u)
      → and_then x k ≡ got (finds r) u → On n w u
  then_on (got a v) k s f e = let o = f a v e in record { length = o.length ∙ s.length; on = omega (arith, s.on, o.on); within = λ h. o.within (s.within h) }
  then_on (refused x v) k s f e = absurd (not_refused e)

  moves_then : {p : Parse A} {k : A → Parse Looked} → Keeps p → ((a : A) → Moves n (k a)) → Moves n (p >>= k)
  unfolding ◌>>=◌
  moves_then {p = p} {k = k} f g = record { moves = λ d w e. then_on (p d w) (λ a. k a d) (f.keeps d w) (λ a v. (g a).moves d v) e }

moves_packed : {k : ℕ → Parse Looked} → ((a : ℕ) → Moves 0 (k a)) → Moves 8 (packed >>= k)
unfolding ◌>>=◌
moves_packed {k} f = record { moves = λ d w e. go d w (packed d w) refl e }
  where
    go : (d : List ℕ) (w : Window) {r : FieldRecord} {u : Window} (x : Answer ℕ) → packed d w ≡ x → and_then x (λ a. k a d) ≡ got (finds r) u → On 8 w u
    go d w (got a v) q e =
        let o = (f a).moves d v e in
        let s = keeps_packed.keeps d w in
        record { length = o.length ∙ (rw q at s).length; on = omega (arith, packed_reads d w q, o.on); within = λ h. o.within ((rw q at s).within h) }
    go d w (refused x v) q e = absurd (not_refused e)

-- what is not a record
data Not : Looked → Type 0 where
  end : Not ends
  abandon : Not abandons

no_record : {a : Looked} {w u : Window} {r : FieldRecord} → Not a → got a w ≡ got (finds r) u → ⊥
no_record end e = let z : ◌≡◌ {A = ℕ} 0 1 = cc in omega arith
no_record abandon e = let z : ◌≡◌ {A = ℕ} 0 1 = cc in omega arith

moves_if : {n : ℕ} (t : Bool) {a : Looked} {p : Parse Looked} → Not a → Moves n p → Moves n (read_if t a p)
unfolding read_if give
moves_if true h f = f
moves_if false h f = record { moves = λ d w e. absurd (no_record h e) }

keeps_remaining : Keeps remaining
unfolding remaining
keeps_remaining = record { keeps = λ d w. stays w }

-- a payload that is there ends within the window
moves_rest : (h n : ℕ) → Moves 0 (remaining >>= (λ l. read_if (leb n l) abandons (payload h n)))
unfolding remaining payload ◌>>=◌ read_if give
moves_rest h n = record { moves = λ d w e. go d w (dec_le n (bits_left w)) e }
  where
    go : (d : List ℕ) (w : Window) {r : FieldRecord} {u : Window} → Dec (n ≤ bits_left w) → read_if (leb n (bits_left w)) abandons (payload h n) d w ≡ got (finds r) u → On 0 w u
    go d w (yes f) e = rw (sym (ap left (rw (le-leb n (bits_left w) f) at e))) (record { length = refl; on = omega arith; within = λ g. omega arith })
    go d w (no f) e = absurd (no_record abandon (rw (lt-leb n (bits_left w) (omega arith)) at e))

moves_counted : (h : ℕ) → Moves 8 (counted h)
unfolding counted
moves_counted h = moves_packed (λ n. moves_rest h n)

moves_call : (m : ℕ) → Moves 8 (call m)
unfolding call
moves_call m = moves_then (keeps_serialized m) (λ h. moves_then keeps_remaining (λ l. moves_if (leb 8 l) abandon (moves_counted h)))

pub moves_look : (k : RecordKind) → Moves 8 (look k)
unfolding look rep_layout class_net_cache
moves_look RecordKind.RepLayout = moves_then keeps_packed (λ c. moves_if (not (eqb c 0)) end (moves_counted (c - 1)))
moves_look (RecordKind.ClassNetCache m) = moves_then keeps_remaining (λ l. moves_if (ltb 0 l) end (moves_call (max m 2)))
