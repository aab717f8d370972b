-- A channel taken out of the sequences in their columns, by the slot that was found.
use Prim.Native.Nat.{ℕ, suc, ◌≤◌}
use mathlib.Core.Path.{◌≡◌, sym, ◌∙◌}
use mathlib.Core.List.{List}
use lib.ListN.{length, take}
use lib.Seq.{length-take-le}
use Rattle.std.specs.Prelude.{Ok, Err}
use Rattle.tables.specs.Columns.{laid, removed_at}
use Rattle.tables.specs.Tables.{Table, without, slot_of}
use Rattle.tables.proofs.Columns.{laid_take}
use Rattle.tables.proofs.Join.{free_without}
use Rattle.tables.proofs.Held.{Holds, holds, at_without_holds}
use Rattle.packet_tracking.specs.SequenceColumns.{sequences_at, LaidSequences}
use Rattle.packet_tracking.specs.Fits.{TableLive}

laid_sequences : (ch nu : List ℕ) {t : Table ℕ} {cs vs : List ℕ} {n : ℕ} → Holds t cs vs n → LaidSequences t ch nu n (laid cs ch) (laid vs nu)
laid_sequences ch nu h = record { live_is = sym h.size; channels_are = rw h.first; numbers_are = rw h.second }

module _ {live : ℕ} (c i : ℕ) (ch nu : List ℕ) (fits : TableLive live ch) (size : live ≤ length nu) where
  long : length (take live ch) ≡ live
  long = length-take-le live ch fits.room

  wide : length (take live nu) ≡ live
  wide = length-take-le live nu size

  pub sequence_gone : slot_of c (take live ch) ≡ Ok i → {n : ℕ} → suc n ≡ live
      → LaidSequences (without c (sequences_at live ch nu)) ch nu n (laid (removed_at i (take live ch)) ch) (laid (removed_at i (take live nu)) nu)
  sequence_gone slot e = laid_sequences ch nu (at_without_holds c i (take live ch) (take live nu) long wide fits.ascends slot e)

  pub sequence_absent : slot_of c (take live ch) ≡ Err i → LaidSequences (without c (sequences_at live ch nu)) ch nu live ch nu
  sequence_absent slot =
      rw (free_without c i (take live ch) slot (take live nu) (long ∙ sym wide) fits.ascends)
      (rw (laid_take live ch, laid_take live nu) at (laid_sequences ch nu (holds (take live ch) (take live nu) long wide)))
