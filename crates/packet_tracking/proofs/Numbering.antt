-- The reliable sequences in their two columns: what each way through `reliably` leaves.
use Prim.Native.Nat.{ℕ, suc, ◌≤◌, ◌<◌}
use mathlib.Core.Path.{◌≡◌, sym, ap, ◌∙◌}
use mathlib.Core.Bool.{Bool, true, false}
use mathlib.Core.List.{List}
use native.Mathlib.Omega.{arith}
use lib.ListN.{length, get_or, set, take}
use lib.Seq.{length-take-le, get_or-take}
use borrow.Author.Tests.{le-leb, lt-leb, eq-eqb, ne_eqb}
use Rattle.std.specs.Prelude.{Ok, Err}
use Rattle.tables.specs.Columns.{laid, inserted_at}
use Rattle.tables.specs.Tables.{Table, none, found, get, slot_of}
use Rattle.tables.proofs.Columns.{laid_take, laid_set}
use Rattle.tables.proofs.Join.{at_within, at_get, free_within, free_get}
use Rattle.tables.proofs.Held.{Holds, holds, at_put_holds, free_put_holds}
use Rattle.types.specs.Continuing.{last_sequence, following}
use Rattle.packet_tracking.specs.Sequences.{reliably}
use Rattle.packet_tracking.specs.SequenceColumns.{sequences_at, sequences_laid}
use Rattle.packet_tracking.specs.Fits.{TableFits}

laid_as : (ch nu : List ℕ) {t : Table ℕ} {cs vs : List ℕ} {n word : ℕ} {limited : Bool} → Holds t cs vs n
    → sequences_laid (record { sequence = word; limited = limited; table = t }) ch nu ≡ record { sequence = word; limited = limited; live = n; channels = laid cs ch; numbers = laid vs nu }
laid_as ch nu h = rw (h.first, h.second, h.size)

module _ {limit live : ℕ} (ch nu : List ℕ) (fits : TableFits limit live ch) (size : limit ≤ length nu) where
  abbrev t : Table ℕ
  t = sequences_at live ch nu

  long : length (take live ch) ≡ live
  long = length-take-le live ch (omega (arith, fits.live_fits, fits.room))

  wide : length (take live nu) ≡ live
  wide = length-take-le live nu (omega (arith, fits.live_fits, size))

  pub same_sequences : (word : ℕ) (limited : Bool) → sequences_laid (record { sequence = word; limited = limited; table = t }) ch nu
      ≡ record { sequence = word; limited = limited; live = live; channels = ch; numbers = nu }
  same_sequences word limited = rw (laid_take live ch, laid_take live nu) at (laid_as ch nu {word = word} {limited = limited} (holds (take live ch) (take live nu) long wide))

  module _ (c i : ℕ) (slot : slot_of c (take live ch) ≡ Ok i) where
    pub at_inside : i < live
    at_inside = rw long at (at_within c i (take live ch) slot)

    before : get c t ≡ found (get_or nu i 0)
    before = at_get c i (take live ch) slot (take live nu) (long ∙ sym wide) 0 ∙ ap found (get_or-take live nu i 0 at_inside)

    pub at_last : get_or nu i 0 ≡ last_sequence → sequences_laid (reliably limit c t) ch nu
        ≡ record { sequence = get_or nu i 0; limited = true; live = live; channels = ch; numbers = nu }
    unfolding reliably
    at_last h = rw (before, eq-eqb (get_or nu i 0) last_sequence h) (same_sequences (get_or nu i 0) true)

    pub at_next : (get_or nu i 0 ≡ last_sequence → ⊥) → sequences_laid (reliably limit c t) ch nu
        ≡ record { sequence = following (get_or nu i 0); limited = false; live = live; channels = ch; numbers = set nu i (following (get_or nu i 0)) }
    unfolding reliably
    at_next h =
        rw (before, ne_eqb (get_or nu i 0) last_sequence h)
        (rw (laid_take live ch, sym (laid_set live i (following (get_or nu i 0)) nu at_inside)) at (laid_as ch nu {word = following (get_or nu i 0)} {limited = false} (at_put_holds c i (take live ch) (take live nu) long wide fits.ascends slot (following (get_or nu i 0)))))

  module _ (c i : ℕ) (slot : slot_of c (take live ch) ≡ Err i) where
    absent : get c t ≡ none
    absent = free_get c i (take live ch) slot (take live nu) (long ∙ sym wide) fits.ascends

    abbrev taken : Holds t (take live ch) (take live nu) live
    taken = holds (take live ch) (take live nu) long wide

    pub free_inside : i ≤ live
    free_inside = rw long at (free_within c i (take live ch) slot)

    pub free_full : limit ≤ live → sequences_laid (reliably limit c t) ch nu ≡ record { sequence = 1; limited = true; live = live; channels = ch; numbers = nu }
    unfolding reliably
    free_full h = rw (absent, le-leb limit (length t) (rw taken.size h)) (same_sequences 1 true)

    pub free_new : live < limit → sequences_laid (reliably limit c t) ch nu
        ≡ record { sequence = 1; limited = false; live = suc live; channels = laid (inserted_at i c (take live ch)) ch; numbers = laid (inserted_at i 1 (take live nu)) nu }
    unfolding reliably
    free_new h =
        rw (absent, lt-leb limit (length t) (rw taken.size h))
        (laid_as ch nu (free_put_holds c i (take live ch) (take live nu) long wide fits.ascends slot 1))
