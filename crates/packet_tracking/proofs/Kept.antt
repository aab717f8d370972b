-- The tables stay sound: within the limit and by ascending channel, through numbering, tracking and retiring; and what is laid is read back.
use Prim.Native.Nat.{ℕ, ◌≤◌, ◌<◌}
use mathlib.Core.Path.{◌≡◌, refl, sym, ◌∙◌}
use mathlib.Core.Bool.{Bool, true, false, not, ◌&&◌, cond}
use mathlib.Core.List.{List}
use native.Mathlib.Omega.{arith}
use lib.Dec.{eqb, leb}
use lib.ListN.{length, take, length-map}
use lib.Seq.{length-take-le}
use borrow.Author.Tests.{leb-false}
use Rattle.tables.specs.Columns.{laid}
use Rattle.tables.specs.Tables.{Table, Found, none, found, get, channels, values}
use Rattle.tables.proofs.Columns.{take_laid, length_laid, beside_whole}
use Rattle.tables.proofs.Kept.{Kept, without_kept, put_kept}
use Rattle.tables.proofs.Held.{holds}
use Rattle.packet_header.specs.declared.BunchFields.{BunchFields}
use Rattle.types.specs.Continuing.{last_sequence, following, Partial}
use Rattle.packet_tracking.specs.Sequences.{limit_flagged, sequence_stored, next_sequence, reliably, unreliable, numbered}
use Rattle.packet_tracking.specs.Partials.{Effect, stays, puts, removed, tracked, effected, in_flight, fragment, tracking}
use Rattle.packet_tracking.specs.SequenceColumns.{sequences_at}
use Rattle.packet_tracking.specs.PartialColumns.{partials_at, sequences_in_flight, reliables_in_flight}
use Rattle.packet_tracking.specs.Fits.{TableFits}
use Rattle.packet_tracking.proofs.Tracking.{same_bears, lives, roomy}
use Rattle.packet_tracking.proofs.Effects.{puts_unfilled}

module _ {A : Type 0} {limit : ℕ} (t : Table A) (kept : Kept limit t) where
  channels_long : length (channels t) ≡ length t
  channels_long = length-map t (λ (e : ℕ × A). e.0)

  -- the channels' column after the table is laid in it
  pub kept_fits : {live : ℕ} (ch : List ℕ) → TableFits limit live ch → TableFits limit (length t) (laid (channels t) ch)
  kept_fits ch fits =
      let e = length_laid (channels t) ch (omega (arith, channels_long, kept.within, fits.room)) in
      record {
        few = fits.few;
        live_fits = kept.within;
        room = omega (arith, e, fits.room);
        ascends = rw (sym channels_long, take_laid (channels t) ch) kept.ordered;
      }

  -- any other column of as many values
  pub kept_size : {B : Type 0} (vs m : List B) → length vs ≡ length t → limit ≤ length m → length (laid vs m) ≡ length m
  kept_size vs m e room = length_laid vs m (omega (arith, e, kept.within, room))

module _ {limit : ℕ} (t : Table ℕ) (kept : Kept limit t) where
  pub reliably_kept : (c : ℕ) → Kept limit (reliably limit c t).table
  unfolding reliably
  reliably_kept c = go (get c t) refl
    where
      fresh : (b : Bool) → leb limit (length t) ≡ b → Kept limit (cond b (limit_flagged 1 t) (sequence_stored c 1 t)).table
      fresh true e = kept
      fresh false e = put_kept t kept c 1 (λ n. leb-false limit (length t) e)

      again : (u : ℕ) → get c t ≡ found u → (b : Bool) → Kept limit (cond b (limit_flagged u t) (sequence_stored c (following u) t)).table
      again u e true = kept
      again u e false = put_kept t kept c (following u) (λ n. absurd (let z : ◌≡◌ {A = ℕ} 0 1 = cc in omega arith))

      go : (x : Found ℕ) → get c t ≡ x → Kept limit (next_sequence limit c t x).table
      go none e = fresh (leb limit (length t)) refl
      go (found u) e = again u e (eqb u last_sequence)

  pub numbered_kept : (id : ℕ) (f : BunchFields) → Kept limit (numbered limit id f t).table
  unfolding numbered
  numbered_kept id f = go f.b_reliable
    where
      go : (b : Bool) → Kept limit (cond b (reliably limit f.ch_index t) (record { sequence = unreliable f id; limited = false; table = t })).table
      go true = reliably_kept f.ch_index
      go false = kept

module _ {limit : ℕ} (t : Table Partial) (kept : Kept limit t) where
  effected_kept : (c : ℕ) (p : Partial) (e : Effect) → (e ≡ puts → get c t ≡ none → length t < limit) → Kept limit (effected e c p t)
  effected_kept c p stays room = kept
  effected_kept c p puts room = put_kept t kept c p (room refl)
  effected_kept c p removed room = without_kept t kept c

  pub tracking_kept : (f : BunchFields) (sequence : ℕ) (limited : Bool) → Kept limit (effected (tracking limit f sequence limited t).effect f.ch_index (in_flight f sequence) t)
  unfolding tracking
  tracking_kept f sequence limited = effected_kept f.ch_index (in_flight f sequence) (tracking limit f sequence limited t).effect (go (f.b_partial && not limited))
    where
      go : (b : Bool) → (cond b (fragment limit f sequence t) (tracked stays false false)).effect ≡ puts → get f.ch_index t ≡ none → length t < limit
      go true e n = leb-false limit (length t) (puts_unfilled f sequence (leb limit (length t)) (rw n at e))
      go false e n = let z : ◌≡◌ {A = ℕ} 0 1 = cc in absurd (omega arith)

-- what the columns hold, of columns that fit
module _ {limit live : ℕ} (ch : List ℕ) (fits : TableFits limit live ch) where
  pub sequences_kept : (nu : List ℕ) → limit ≤ length nu → Kept limit (sequences_at live ch nu)
  sequences_kept nu size =
      let long = length-take-le live ch (lives fits).room in
      let h = holds (take live ch) (take live nu) long (length-take-le live nu (roomy fits size)) in
      record { within = omega (arith, h.size, fits.live_fits); ordered = rw h.first fits.ascends }

  pub partials_kept : (se re : List ℕ) → limit ≤ length se → limit ≤ length re → Kept limit (partials_at live ch se re)
  partials_kept se re size size' =
      let h = same_bears 0 0 ch se re (lives fits) (roomy fits size) (roomy fits size') in
      record { within = omega (arith, h.size, fits.live_fits); ordered = rw h.first fits.ascends }

-- what is laid is read back
pub laid_back : {A : Type 0} (t : Table A) (s m : List ℕ) → length s ≡ length t → take (length t) (laid s m) ≡ s
laid_back t s m e = rw (← e) (take_laid s m)

pub sequences_back : (t : Table ℕ) (ch nu : List ℕ) → sequences_at (length t) (laid (channels t) ch) (laid (values t) nu) ≡ t
sequences_back t ch nu =
    rw (laid_back t (channels t) ch (length-map t (λ (e : ℕ × ℕ). e.0)), laid_back t (values t) nu (length-map t (λ (e : ℕ × ℕ). e.1)))
    (beside_whole t)

pub partials_back : (t : Table Partial) (ch se re : List ℕ) → partials_at (length t) (laid (channels t) ch) (laid (sequences_in_flight t) se) (laid (reliables_in_flight t) re) ≡ t
partials_back t ch se re =
    let v = length-map t (λ (e : ℕ × Partial). e.1) in
    rw
    (laid_back t (channels t) ch (length-map t (λ (e : ℕ × Partial). e.0)), laid_back t (sequences_in_flight t) se (length-map (values t) (λ (e : Partial). e.0) ∙ v), laid_back t (reliables_in_flight t) re (length-map (values t) (λ (e : Partial). e.1) ∙ v), beside_whole (values t))
    (beside_whole t)
