-- The ledger's exception is document 01's, no more and no less.
use Prim.Native.Nat.{ℕ}
use mathlib.Core.Path.{◌≡◌, refl, sym, ap, ◌∙◌}
use mathlib.Core.Bool.{Bool, true, false, not, ◌&&◌, ◌||◌, cond}
use native.Mathlib.Omega.{arith}
use Rattle.types.specs.declared.PartialSequenceKind.{PartialSequenceKind}
use Rattle.types.specs.declared.RawBunchHeader.{RawBunchHeader}
use Rattle.tables.specs.Tables.{Found, none, found}
use Rattle.bunch_judging.specs.declared.Fate.{Fate}
use Rattle.bunch_judging.specs.Held.{Held, Fragment}
use Rattle.bunch_judging.specs.Fates.{follows, overlaps, ending, admitted, continued, fate}
use Rattle.bunch_judging.specs.Ledger.{Unreported}
use Rattle.bunch_judging.proofs.Judged.{unreported_flagged}
use Rattle.claims_isolation.specs.Ledger.{valid, Exception}

-- only a fragment that continues its message falls with it
falls_valid : (over : Bool) (m : Found Held) (h : RawBunchHeader) (bits : ℕ) → continued over m h bits ≡ Fate.Falls → valid m h ≡ true
unfolding continued
falls_valid over none h bits e = cc
falls_valid over (found n) h bits e = go n.finished (follows n.sequence n.reliable h) e
  where
    go : (done follow : Bool)
        → cond done (Fate.Breaks PartialSequenceKind.MissingInitial) (cond follow (admitted over h.b_partial_final h.has_partial_error bits) (Fate.Breaks PartialSequenceKind.MismatchedContinuation)) ≡ Fate.Falls
        → (not done && follow) ≡ true
    go true follow f = cc
    go false false f = cc
    go false true f = refl

valid_continued : (over : Bool) (m : Found Held) (h : RawBunchHeader) (bits : ℕ) → valid m h ≡ true → continued over m h bits ≡ admitted over h.b_partial_final h.has_partial_error bits
unfolding continued
valid_continued over none h bits e = let z : ◌≡◌ {A = ℕ} 0 1 = cc in absurd (omega arith)
valid_continued over (found n) h bits e = go n.finished (follows n.sequence n.reliable h) e
  where
    go : (done follow : Bool) → (not done && follow) ≡ true
        → cond done (Fate.Breaks PartialSequenceKind.MissingInitial) (cond follow (admitted over h.b_partial_final h.has_partial_error bits) (Fate.Breaks PartialSequenceKind.MismatchedContinuation)) ≡ admitted over h.b_partial_final h.has_partial_error bits
    go true follow f = let z : ◌≡◌ {A = ℕ} 0 1 = cc in absurd (omega arith)
    go false false f = let z : ◌≡◌ {A = ℕ} 0 1 = cc in absurd (omega arith)
    go false true f = refl

module _ (full over : Bool) (m : Found Held) (f : Fragment) where
  abbrev met : Fate
  met = fate full over m f.header f.bits

  not_initial : f.header.b_partial_initial ≡ false → met ≡ continued over m f.header f.bits
  unfolding fate
  not_initial e =
      ap (λ (b : Bool). cond b (cond full Fate.TurnedAway (admitted over f.header.b_partial_final (f.header.has_partial_error || overlaps m f.header.b_partial_initial) f.bits)) (continued over m f.header f.bits)) e

  pub excepted : Unreported met f → Exception m f
  excepted u =
      let flags = unreported_flagged full over m f u in
      record {
        is_valid = falls_valid over m f.header f.bits (sym (not_initial u.continues) ∙ u.falls);
        non_initial = u.continues;
        final = flags.0;
        zero_bits = u.empty;
        flagged = flags.1;
      }

  pub exception_falls : Exception m f → Unreported met f
  unfolding admitted ending
  exception_falls x =
      let falls : admitted over f.header.b_partial_final f.header.has_partial_error f.bits ≡ Fate.Falls = rw (x.final, x.flagged, x.zero_bits) refl in
      record { falls = not_initial x.non_initial ∙ valid_continued over m f.header f.bits x.is_valid ∙ falls; continues = x.non_initial; empty = x.zero_bits }
