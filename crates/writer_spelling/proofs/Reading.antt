-- What a parse reads back from bits, wherever they stand: a row of reads passes the bits of each in turn.
use Prim.Native.Nat.{ℕ, ◌+◌, ◌-◌, ◌≤◌}
use mathlib.Core.Path.{◌≡◌, refl, sym, ap, ◌∙◌}
use mathlib.Core.Bool.{Bool, true, false}
use mathlib.Core.List.{List, [], ◌++◌, append-nil}
use native.Mathlib.Nat.{add_assoc, add-zero}
use native.Mathlib.Omega.{arith}
use lib.ListN.{length, take, drop, length-append}
use lib.Seq.{take_at, drop_at}
use Rattle.bitio_window.specs.declared.Window.{Window}
use Rattle.bitio_window.specs.Refusals.{Refusal}
use Rattle.bitio_window.specs.Parse.{Answer, got, Parse, and_then, ◌>>=◌, ◌>>◌, give, refuse_if, read_if, advanced}
use Rattle.bitio_window.proofs.Rows.{lets_on}
use Rattle.bitio_window.proofs.Steps.{advanced_past}
use Rattle.writer_spelling.specs.Bits.{bits_from, only_if}
use Rattle.writer_spelling.proofs.Lists.{length_bits_from, from_append}

-- where the bits stand at the window's cursor and within the window, p reads the value and passes them
pub record Reads {A : Type 0} (p : Parse A) (bs : List Bool) (a : A) : Type 0 where
  pub back : (d : List ℕ) (w : Window) → bits_from d (w.start.0 + w.position.0) (length bs) ≡ bs → length bs ≤ w.length - w.position.0
      → p d w ≡ got a (advanced w (length bs))

-- bits that stand in a row, each part by itself
pub in_a_row : (d : List ℕ) (k : ℕ) (bs cs : List Bool) → bits_from d k (length (bs ++ cs)) ≡ bs ++ cs
    → (bits_from d k (length bs) ≡ bs) × (bits_from d (k + length bs) (length cs) ≡ cs)
in_a_row d k bs cs h =
    let here = bits_from d k (length bs) in
    let there = bits_from d (k + length bs) (length cs) in
    let e : here ++ there ≡ bs ++ cs =
    sym (from_append d k (length bs) (length cs)) ∙ ap (bits_from d k) (sym (length-append bs cs)) ∙ h in
    let n = length_bits_from d k (length bs) in (
      sym (take_at here there (length bs) n) ∙ ap (take (length bs)) e ∙ take_at bs cs (length bs) refl,
      sym (drop_at here there (length bs) n) ∙ ap (drop (length bs)) e ∙ drop_at bs cs (length bs) refl,
    )

module _ {A : Type 0} where
  pub reads_nothing : (a : A) → Reads (give a) [] a
  unfolding give
  reads_nothing a = record { back = λ d w h l. ap (λ (n : ℕ). got a (record { start = w.start; position = record { 0 = n }; length = w.length })) (sym (add-zero w.position.0)) }

  -- a read where it is asked for, and else the value that stands for none
  pub reads_if : (wanted : Bool) (without : A) {p : Parse A} {bs : List Bool} {a : A} → (wanted ≡ true → Reads p bs a) → (wanted ≡ false → a ≡ without)
      → Reads (read_if wanted without p) (only_if wanted bs) a
  unfolding read_if only_if
  reads_if true without r e = r refl
  reads_if false without r e = rw (e refl) (reads_nothing without)

  pub reads_same : {p : Parse A} {bs cs : List Bool} {a b : A} → Reads p bs a → bs ≡ cs → a ≡ b → Reads p cs b
  reads_same r e f = rw (← e, ← f) r

  -- a test that finds nothing to refuse
  pub reads_past : (e : Refusal) (q : Parse A) {t : Bool} {bs : List Bool} {a : A} → t ≡ false → Reads q bs a → Reads (refuse_if t e >> q) bs a
  reads_past e q f r = record { back = λ d w h l. lets_on d w e q f ∙ r.back d w h l }

module _ {A B : Type 0} where
  pub reads_then : {p : Parse A} (k : A → Parse B) {bs cs : List Bool} {a : A} {b : B} → Reads p bs a → Reads (k a) cs b → Reads (p >>= k) (bs ++ cs) b
  unfolding ◌>>=◌
  reads_then k {bs = bs} {cs = cs} {b = b} r s =
      record {
        back = λ d w h l.
            let n : length (bs ++ cs) ≡ length bs + length cs = length-append bs cs in
            let parts = in_a_row d (w.start.0 + w.position.0) bs cs h in
            ap (λ (x : Answer A). and_then x (λ v. k v d)) (r.back d w parts.0 (omega arith))
            ∙ s.back d (advanced w (length bs)) (ap (λ (j : ℕ). bits_from d j (length cs)) (sym (add_assoc w.start.0 w.position.0 (length bs))) ∙ parts.1) (omega arith)
            ∙ ap (got b) (advanced_past w (length bs) (length cs) (length (bs ++ cs)) (sym n));
      }

  pub reads_last : {p : Parse A} (k : A → Parse B) {bs : List Bool} {a : A} {b : B} → Reads p bs a → Reads (k a) [] b → Reads (p >>= k) bs b
  reads_last k r s = rw append-nil at (reads_then k r s)
