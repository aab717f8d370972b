-- Texts one after another: a text and the next are one text.
use borrow.Rule.Slice.PartMut.{put_mid}
use mathlib.Core.Path.{◌≡◌, refl, ap, sym, ◌∙◌}
use mathlib.Core.List.{List, [], ◌∷◌, ◌++◌}
use Prim.Native.Nat.{ℕ, suc, ◌+◌, ◌≤◌}
use native.Mathlib.Nat.{add-zero}
use native.Mathlib.Omega.{arith}
use lib.ListN.{length, set, take, drop, length-set, length-append}
use lib.Seq.{set_comm, sets, sets-eq, paste, length-paste, take-length}
use native.Mathlib.Numerals.{add-one}
use Rattle.std.proofs.lemmas.Slice.{put_mid-paste}
use Rattle.log_lines.specs.Texts.{written}
use Rattle.log_lines.specs.Puts.{Put}

pub written_append : (s t out : List ℕ) (at : ℕ) → written (written out at s) (at + length s) t ≡ written out at (s ++ t)
unfolding written
written_append [] t out at = ap (λ (i : ℕ). written out i t) (add-zero at)
written_append (b ∷ s) t out at =
    let e : at + suc (length s) ≡ at + 1 + length s = omega arith in
    ap (λ (i : ℕ). written (written (set out at b) (at + 1) s) i t) e ∙ written_append s t (set out at b) (at + 1)

-- a byte that stands after a text may be written before it
pub written_last : (s out : List ℕ) (at b : ℕ) → written (set out (at + length s) b) at s ≡ written out at (s ++ (b ∷ []))
unfolding written
written_last [] out at b = ap (λ (i : ℕ). set out i b) (add-zero at)
written_last (x ∷ s) out at b =
    let e : at + suc (length s) ≡ at + 1 + length s = omega arith in
    ap (λ (i : ℕ). written (set (set out i b) at x) (at + 1) s) e
    ∙ ap (λ (o : List ℕ). written o (at + 1) s) (set_comm out (at + 1 + length s) at b x (λ h. omega arith))
    ∙ written_last s (set out at x) (at + 1) b

-- what `written` says where there is room
as_sets : (text out : List ℕ) (at : ℕ) → written out at text ≡ sets out at text
unfolding written
as_sets [] out at = refl
as_sets (b ∷ text) out at = rw (add-one at) (as_sets text (set out at b) (suc at))

pub written_is : (text out : List ℕ) (at : ℕ) → at + length text ≤ length out → written out at text ≡ take at out ++ text ++ drop (at + length text) out
written_is text out at h = as_sets text out at ∙ sets-eq text out at h

pub one_byte : (out : List ℕ) (at b : ℕ) → Put 1 out at (b ∷ []) (set out at b) (at + 1)
unfolding written
one_byte out at b = record { bytes = refl; ends = refl; within = omega arith; size = length-set out at b }

-- a part of the slice that a text is copied over
pub copied : (out : List ℕ) (at n : ℕ) (text : List ℕ) {part : List ℕ} → at + length text ≤ length out → n ≡ length text → part ≡ text
    → Put (length text) out at text (put_mid at n out part) (at + length text)
copied out at n text {part} h k e =
    let p : put_mid at n out part ≡ paste out at text (length text) = put_mid-paste at n out part text (length text) e (sym k) refl in
    record {
      bytes = p ∙ ap (λ (t : List ℕ). take at out ++ t ++ drop (at + length text) out) (take-length text) ∙ sym (written_is text out at h);
      ends = refl;
      within = omega arith;
      size = ap length p ∙ length-paste out at text (length text) h (omega arith);
    }

module _ {out : List ℕ} {at : ℕ} {s : List ℕ} {o : List ℕ} {e m : ℕ} (p : Put m out at s o e) where
  pub then : {n f : ℕ} {t q : List ℕ} → Put n o e t q f → Put (m + n) out at (s ++ t) q f
  then {n} {f} {t} {q} r =
      record {
        bytes = r.bytes ∙ ap (λ (l : List ℕ). written l e t) p.bytes ∙ ap (λ (i : ℕ). written (written out at s) i t) p.ends ∙ written_append s t out at;
        ends = omega (arith, p.ends, r.ends, length-append s t);
        within = omega (arith, p.within, r.within);
        size = r.size ∙ p.size;
      }

  pub at_most : (n : ℕ) → m ≤ n → Put n out at s o e
  at_most n h = record { bytes = p.bytes; ends = p.ends; within = omega (arith, p.within); size = p.size }
