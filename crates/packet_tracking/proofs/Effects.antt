-- The tracker's answer and its columns after each effect, and that what is put on a channel with no state finds room.
use Prim.Native.Nat.{ℕ, suc, ◌≤◌, ◌<◌}
use mathlib.Core.Path.{◌≡◌, refl, sym, ap, ◌∙◌}
use mathlib.Core.Bool.{Bool, true, false, cond}
use mathlib.Core.List.{List}
use mathlib.Core.Logic.{◌⊎◌, inl, inr}
use native.Mathlib.Omega.{arith}
use lib.Dec.{leb}
use lib.ListN.{length, get_or, set, take}
use borrow.Author.Tests.{leb-false}
use Rattle.std.specs.Prelude.{Ok, Err}
use Rattle.tables.specs.Columns.{laid, inserted_at, removed_at}
use Rattle.tables.specs.Tables.{Table, none, found, put, without, slot_of}
use Rattle.tables.proofs.Columns.{laid_take, laid_set}
use Rattle.packet_header.specs.declared.BunchFields.{BunchFields}
use Rattle.packet_tracking.specs.declared.inner.partials.Effect as I
use Rattle.packet_tracking.specs.declared.inner.partials.Verdict.{Verdict}
use Rattle.types.specs.Continuing.{Partial}
use Rattle.packet_tracking.specs.Partials.{stays, puts, Tracked, tracked, effected, initial, judged, fragment}
use Rattle.packet_tracking.specs.Verdicts.{tracking_effect, verdict_of}
use Rattle.packet_tracking.specs.PartialColumns.{partials_at, partials_laid, LaidPartials}
use Rattle.packet_tracking.specs.Fits.{TableLive}
use Rattle.packet_tracking.proofs.Tracking.{Bears, same_bears, inside, there, put_bears, without_bears, absent, untouched, new_bears}

module _ {live : ℕ} (c i : ℕ) (ch se re : List ℕ) (fits : TableLive live ch) (size : live ≤ length se) (size' : live ≤ length re) where
  laid_as : {t : Table Partial} {cs ss rs : List ℕ} {n : ℕ} → Bears t cs ss rs n → LaidPartials t ch se re n (laid cs ch) (laid ss se) (laid rs re)
  laid_as h = record { live_is = sym h.size; channels_are = rw h.first; sequences_are = rw h.second; reliables_are = rw h.third }

  pub same_laid : LaidPartials (partials_at live ch se re) ch se re live ch se re
  same_laid = rw (laid_take live ch, laid_take live se, laid_take live re) at (laid_as (same_bears c i ch se re fits size size'))

  module _ (slot : slot_of c (take live ch) ≡ Ok i) where
    pub put_laid : (a b : ℕ) → LaidPartials (put c (a, b) (partials_at live ch se re)) ch se re live ch (set se i a) (set re i b)
    put_laid a b =
        let h = inside c i ch se re fits size size' slot in
        rw (laid_take live ch, sym (laid_set live i a se h), sym (laid_set live i b re h)) at (laid_as (put_bears c i ch se re fits size size' slot a b))

    pub gone_laid : {n : ℕ} → suc n ≡ live
        → LaidPartials (without c (partials_at live ch se re)) ch se re n (laid (removed_at i (take live ch)) ch) (laid (removed_at i (take live se)) se) (laid (removed_at i (take live re)) re)
    gone_laid e = laid_as (without_bears c i ch se re fits size size' slot e)

  module _ (slot : slot_of c (take live ch) ≡ Err i) where
    pub new_laid : (a b : ℕ)
        → LaidPartials (put c (a, b) (partials_at live ch se re)) ch se re (suc live) (laid (inserted_at i c (take live ch)) ch) (laid (inserted_at i a (take live se)) se) (laid (inserted_at i b (take live re)) re)
    new_laid a b = laid_as (new_bears c i ch se re fits size size' slot a b)

    pub absent_laid : LaidPartials (without c (partials_at live ch se re)) ch se re live ch se re
    absent_laid = rw (untouched c i ch se re fits size size' slot) same_laid

    pub kept_laid : (p : Partial) {e : I.Effect} → (e ≡ I.Effect.Stays) ⊎ (e ≡ I.Effect.Removed) → LaidPartials (effected (tracking_effect e) c p (partials_at live ch se re)) ch se re live ch se re
    kept_laid p (inl q) = rw q same_laid
    kept_laid p (inr q) = rw q absent_laid

-- columns in which a table was put first are an answer's
pub laid_in : {t : Table Partial} {ch se re : List ℕ} {live : ℕ} {cs ss rs : List ℕ} (error completed : Bool) → LaidPartials t ch se re live cs ss rs
    → record { error = error; completed = completed; live = live; channels = cs; sequences = ss; reliables = rs } ≡ partials_laid (tracked stays error completed) t ch se re
laid_in error completed l = sym (rw (← l.live_is, ← l.channels_are, ← l.sequences_are, ← l.reliables_are) refl)

-- the judging of what the slot shows is the table's
module _ {live : ℕ} (limit i : ℕ) (f : BunchFields) (sequence : ℕ) (ch se re : List ℕ) (fits : TableLive live ch) (size : live ≤ length se) (size' : live ≤ length re) where
  pub judged_there : slot_of f.ch_index (take live ch) ≡ Ok i
      → judged f sequence (leb limit live) (found (get_or se i 0, get_or re i 0)) ≡ fragment limit f sequence (partials_at live ch se re)
  judged_there slot = rw (there f.ch_index i ch se re fits size size' slot, (same_bears f.ch_index i ch se re fits size size').size)

  pub judged_absent : slot_of f.ch_index (take live ch) ≡ Err i → judged f sequence (leb limit live) none ≡ fragment limit f sequence (partials_at live ch se re)
  judged_absent slot = rw (absent f.ch_index i ch se re fits size size' slot, (same_bears f.ch_index i ch se re fits size size').size)

-- with no state, only an initial in a table that is not full puts one
unfilled : (first last full : Bool) → (cond first (initial last full none) (tracked stays true false)).effect ≡ puts → full ≡ false
unfilled true true full e = let z : ◌≡◌ {A = ℕ} 0 1 = cc in absurd (omega arith)
unfilled true false true e = let z : ◌≡◌ {A = ℕ} 0 1 = cc in absurd (omega arith)
unfilled true false false e = refl
unfilled false last full e = let z : ◌≡◌ {A = ℕ} 0 1 = cc in absurd (omega arith)

pub puts_unfilled : (f : BunchFields) (sequence : ℕ) (full : Bool) → (judged f sequence full none).effect ≡ puts → full ≡ false
unfolding judged
puts_unfilled f sequence full e = unfilled f.b_partial_initial f.b_partial_final full e

pub puts_within : (f : BunchFields) (sequence limit live : ℕ) (v : Verdict) → verdict_of v ≡ judged f sequence (leb limit live) none → v.effect ≡ I.Effect.Puts → live < limit
puts_within f sequence limit live v j e =
    leb-false limit live (puts_unfilled f sequence (leb limit live) (sym (ap (λ (k : Tracked). k.effect) j) ∙ ap tracking_effect e))
