-- Which fates a fragment meets, and what that tells: a case of `fate` for each, with what led there.
use mathlib.Core.Path.{◌≡◌, refl}
use mathlib.Core.Bool.{Bool, true, false, not, ◌&&◌, ◌||◌, cond}
use Prim.Native.Nat.{ℕ, ◌%◌}
use native.Mathlib.Omega.{arith}
use lib.Dec.{eqb}
use borrow.Author.Tests.{eqb-true}
use Rattle.types.specs.declared.PartialSequenceKind.{PartialSequenceKind}
use Rattle.types.specs.declared.RawBunchHeader.{RawBunchHeader}
use Rattle.tables.specs.Tables.{Found, none, found}
use Rattle.bunch_judging.specs.declared.PartialDiscardCause.{PartialDiscardCause}
use Rattle.bunch_judging.specs.declared.Fate.{Fate}
use Rattle.bunch_judging.specs.Held.{Held}
use Rattle.bunch_judging.specs.Fates.{follows, overlaps, ending, weighed, admitted, continued, fate}

abbrev pub is_unfinished : Found Held → Bool
is_unfinished none = false
is_unfinished (found m) = not m.finished

module _ (P : Fate → Type 0) where
  admitted_case : (over final error : Bool) (bits : ℕ)
      → (bits % 8 ≡ 0 → P Fate.Joins) → P Fate.Finishes → (final ≡ true → error ≡ true → P Fate.Falls) → ((c : PartialDiscardCause) → P (Fate.Fails c))
      → P (admitted over final error bits)
  unfolding admitted weighed ending
  admitted_case over final error bits joins finishes falls fails = go (eqb bits 0) refl final refl error refl (eqb (bits % 8) 0) refl over
    where
      go : (zero : Bool) → eqb bits 0 ≡ zero → (last : Bool) → final ≡ last → (wrong : Bool) → error ≡ wrong → (even : Bool) → eqb (bits % 8) 0 ≡ even → (much : Bool)
          → P (cond zero (ending last wrong) (weighed (not last && not even) much last wrong))
      go true z true l true w even e much = falls l w
      go true z true l false w even e much = finishes
      go true z false l wrong w even e much = joins (omega (arith, eqb-true bits 0 z))
      go false z true l wrong w even e true = fails _
      go false z true l true w even e false = falls l w
      go false z true l false w even e false = finishes
      go false z false l wrong w false e much = fails _
      go false z false l wrong w true e true = fails _
      go false z false l wrong w true e false = joins (eqb-true (bits % 8) 0 e)

  module _ (full over : Bool) (m : Found Held) (h : RawBunchHeader) (bits : ℕ) where
    -- a fragment that is not initial joins only a message that is not finished
    abbrev Joinable : Type 0
    Joinable = h.b_partial_initial ≡ false → is_unfinished m ≡ true

    pub fate_case : (full ≡ true → P Fate.TurnedAway) → ((k : PartialSequenceKind) → P (Fate.Breaks k)) → ((c : PartialDiscardCause) → P (Fate.Fails c))
        → (Joinable → bits % 8 ≡ 0 → P Fate.Joins) → (Joinable → P Fate.Finishes)
        → (Joinable → h.b_partial_final ≡ true → (h.b_partial_initial ≡ false → h.has_partial_error ≡ true) → P Fate.Falls)
        → P (fate full over m h bits)
    unfolding fate continued
    fate_case away breaks fails joins finishes falls = go h.b_partial_initial refl full refl
      where
        first : h.b_partial_initial ≡ true → P (admitted over h.b_partial_final (h.has_partial_error || overlaps m h.b_partial_initial) bits)
        first i =
            let joinable : Joinable = λ e. cc in
            admitted_case over h.b_partial_final (h.has_partial_error || overlaps m h.b_partial_initial) bits (joins joinable) (finishes joinable) (λ l w. falls joinable l (λ e. cc)) fails

        next : (n : Held) → m ≡ found n → h.b_partial_initial ≡ false → (done : Bool) → n.finished ≡ done → (follow : Bool)
            → P (cond done (Fate.Breaks PartialSequenceKind.MissingInitial) (cond follow (admitted over h.b_partial_final h.has_partial_error bits) (Fate.Breaks PartialSequenceKind.MismatchedContinuation)))
        next n q i true d follow = breaks _
        next n q i false d false = breaks _
        next n q i false d true =
            let joinable : Joinable = λ e. rw (q, d) refl in
            admitted_case over h.b_partial_final h.has_partial_error bits (joins joinable) (finishes joinable) (λ l w. falls joinable l (λ e. w)) fails

        later : h.b_partial_initial ≡ false → (t : Found Held) → m ≡ t → P (continued over t h bits)
        later i none q = breaks _
        later i (found n) q = next n q i n.finished refl (follows n.sequence n.reliable h)

        go : (i : Bool) → h.b_partial_initial ≡ i → (t : Bool) → full ≡ t
            → P (cond i (cond t Fate.TurnedAway (admitted over h.b_partial_final (h.has_partial_error || overlaps m h.b_partial_initial) bits)) (continued over m h bits))
        go true i true t = away t
        go true i false t = first i
        go false i t e = later i m refl
