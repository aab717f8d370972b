-- A header that refusal 16 lets through has fields that its bits can say, and its reason says whether it is dormant: by cases.
use Prim.Native.Nat.{ℕ, ◌^◌, ◌≤◌, ◌<◌}
use mathlib.Core.Path.{◌≡◌, refl, sym}
use mathlib.Core.Bool.{Bool, true, false, not, ◌&&◌, ◌||◌}
use native.Mathlib.Omega.{arith}
use lib.Dec.{eqb}
use Rattle.types.specs.declared.ChannelCloseReason.{ChannelCloseReason}
use Rattle.types.specs.declared.RawBunchHeader.{RawBunchHeader}
use Rattle.types.specs.Types.{reason_word}
use Rattle.types.proofs.Reasons.{reason_fits}
use Rattle.types.specs.Continuing.{agree}
use Rattle.writer_spelling.specs.Header.{dormancy, fields_of, writable}
use Rattle.writer_spelling.proofs.Headers.{Sayable}

both : (a b : Bool) → a && b ≡ true → (a ≡ true) × (b ≡ true)
both true b h = (refl, h)
both false b h = (h, cc)

-- "initial or final without partial"
parts : (i f p : Bool) → not ((i || f) && not p) ≡ true → p ≡ false → (i ≡ false) × (f ≡ false)
parts i f true h e = (cc, cc)
parts true f false h e = (cc, cc)
parts false true false h e = (refl, cc)
parts false false false h e = (refl, refl)

-- "a reason other than Destroyed without close"
no_reason : (r : ChannelCloseReason) (c : Bool) → not (dormancy r && not c) ≡ true → c ≡ false → reason_word r ≡ 0
no_reason ChannelCloseReason.Destroyed c h e = refl
no_reason ChannelCloseReason.Dormancy true h e = cc
no_reason ChannelCloseReason.Dormancy false h e = cc

-- "dormant unequal to close with Dormancy"
dormant : (r : ChannelCloseReason) (c d : Bool) → not (dormancy r && not c) ≡ true → agree d (c && dormancy r) ≡ true → eqb (reason_word r) 1 ≡ d
dormant ChannelCloseReason.Destroyed true true h e = e
dormant ChannelCloseReason.Destroyed true false h e = refl
dormant ChannelCloseReason.Destroyed false true h e = e
dormant ChannelCloseReason.Destroyed false false h e = refl
dormant ChannelCloseReason.Dormancy true true h e = refl
dormant ChannelCloseReason.Dormancy true false h e = sym e
dormant ChannelCloseReason.Dormancy false d h e = cc

module _ (h : RawBunchHeader) (w : writable h ≡ true) where
  tests : (not ((h.b_partial_initial || h.b_partial_final) && not h.b_partial) ≡ true)
      × (not (dormancy h.close_reason && not h.b_close) ≡ true)
      × (agree h.b_dormant (h.b_close && dormancy h.close_reason) ≡ true)
  unfolding writable
  tests = let a = both _ (agree h.b_dormant (h.b_close && dormancy h.close_reason)) w in let b = both _ _ a.0 in (b.0, b.1, a.1)

  pub dormant_back : eqb (reason_word h.close_reason) 1 ≡ h.b_dormant
  dormant_back = dormant h.close_reason h.b_close h.b_dormant tests.1 tests.2

  pub sayable : (count : ℕ) → h.ch_index < 2 ^ 32 → count ≤ 16383 → Sayable (fields_of h count)
  unfolding fields_of
  sayable count c n =
      let whole = parts h.b_partial_initial h.b_partial_final h.b_partial tests.0 in
      record {
        channel_fits = c;
        reason_fits = reason_fits h.close_reason;
        count_fits = omega arith;
        reason_with_close = no_reason h.close_reason h.b_close tests.1;
        initial_with_partial = λ e. (whole e).0;
        final_with_partial = λ e. (whole e).1;
      }
