-- The partial tracker's table in its three columns: what each edit at the channel's slot leaves in them.
use Prim.Native.Nat.{ℕ, suc, ◌≤◌, ◌<◌}
use mathlib.Core.Path.{◌≡◌, refl, sym, ap, ◌∙◌}
use mathlib.Core.List.{List}
use native.Mathlib.Omega.{arith}
use lib.ListN.{length, get_or, set, take, length-set}
use lib.Seq.{length-take-le, get_or-take}
use Rattle.std.specs.Prelude.{Ok, Err}
use Rattle.tables.specs.Columns.{inserted_at, removed_at, beside}
use Rattle.tables.specs.Tables.{Table, none, found, get, put, without, channels, slot_of}
use Rattle.tables.proofs.Columns.{length_inserted, length_removed, inserted_beside, removed_beside, set_beside, length_beside, get_d_beside, beside_first, beside_second}
use Rattle.tables.proofs.Join.{at_get, free_get, free_without, at_live, free_live}
use Rattle.tables.proofs.Held.{Holds, holds, at_put_holds, at_without_holds, free_put_holds}
use Rattle.types.specs.Continuing.{Partial}
use Rattle.packet_tracking.specs.PartialColumns.{partials_at, sequences_in_flight, reliables_in_flight}
use Rattle.packet_tracking.specs.Fits.{TableFits, TableLive}

pub lives : {limit live : ℕ} {ch : List ℕ} → TableFits limit live ch → TableLive live ch
lives h =
    record { few = omega (arith, h.live_fits, h.few); room = omega (arith, h.live_fits, h.room); ascends = h.ascends }

pub roomy : {limit live n : ℕ} {ch : List ℕ} → TableFits limit live ch → limit ≤ n → live ≤ n
roomy h r = omega (arith, h.live_fits, r)

-- a table of the tracker and its three columns
pub record Bears (t : Table Partial) (cs ss rs : List ℕ) (n : ℕ) : Type 0 where
  pub first : channels t ≡ cs
  pub second : sequences_in_flight t ≡ ss
  pub third : reliables_in_flight t ≡ rs
  pub size : length t ≡ n

bears : {t : Table Partial} {cs : List ℕ} {n : ℕ} {vs : List Partial} (ss rs : List ℕ) → Holds t cs vs n → vs ≡ beside ss rs → length ss ≡ length rs → Bears t cs ss rs n
bears ss rs h e l =
    record {
      first = h.first;
      second = rw (h.second, e) (beside_first ss rs l);
      third = rw (h.second, e) (beside_second ss rs l);
      size = h.size;
    }

module _ {live : ℕ} (c i : ℕ) (ch se re : List ℕ) (fits : TableLive live ch) (size : live ≤ length se) (size' : live ≤ length re) where
  abbrev t : Table Partial
  t = partials_at live ch se re

  abbrev vs : List Partial
  vs = beside (take live se) (take live re)

  long : length (take live ch) ≡ live
  long = length-take-le live ch fits.room

  wide : length (take live se) ≡ live
  wide = length-take-le live se size

  wide' : length (take live re) ≡ live
  wide' = length-take-le live re size'

  alike : length (take live se) ≡ length (take live re)
  alike = wide ∙ sym wide'

  tall : length vs ≡ live
  tall = length_beside (take live se) (take live re) alike ∙ wide

  pub same_bears : Bears t (take live ch) (take live se) (take live re) live
  same_bears = bears (take live se) (take live re) (holds (take live ch) vs long tall) refl alike

  module _ (slot : slot_of c (take live ch) ≡ Ok i) where
    pub inside : i < live
    inside = at_live c i live ch fits.room slot

    -- the place is one of each column
    pub indexed : (i < 4096) × (i < length se) × (i < length re)
    indexed = (omega (arith, inside, fits.few), omega (arith, inside, size), omega (arith, inside, size'))

    pub there : get c t ≡ found (get_or se i 0, get_or re i 0)
    there =
        at_get c i (take live ch) slot vs (long ∙ sym tall) (0, 0)
        ∙ ap found (get_d_beside i 0 0 (take live se) (take live re) alike)
        ∙ rw (get_or-take live se i 0 inside, get_or-take live re i 0 inside)

    pub put_bears : (a b : ℕ) → Bears (put c (a, b) t) (take live ch) (set (take live se) i a) (set (take live re) i b) live
    put_bears a b =
        bears (set (take live se) i a) (set (take live re) i b) (at_put_holds c i (take live ch) vs long tall fits.ascends slot (a, b)) (set_beside i a b (take live se) (take live re))
        (length-set (take live se) i a ∙ alike ∙ sym (length-set (take live re) i b))

    pub without_bears : {n : ℕ} → suc n ≡ live → Bears (without c t) (removed_at i (take live ch)) (removed_at i (take live se)) (removed_at i (take live re)) n
    without_bears e =
        let p = length_removed i (take live se) (omega (arith, inside, wide)) in
        let q = length_removed i (take live re) (omega (arith, inside, wide')) in
        bears (removed_at i (take live se)) (removed_at i (take live re)) (at_without_holds c i (take live ch) vs long tall fits.ascends slot e) (removed_beside i (take live se) (take live re))
        (omega (arith, p, q, alike))

  module _ (slot : slot_of c (take live ch) ≡ Err i) where
    pub absent : get c t ≡ none
    absent = free_get c i (take live ch) slot vs (long ∙ sym tall) fits.ascends

    pub untouched : without c t ≡ t
    untouched = free_without c i (take live ch) slot vs (long ∙ sym tall) fits.ascends

    pub new_bears : (a b : ℕ) → Bears (put c (a, b) t) (inserted_at i c (take live ch)) (inserted_at i a (take live se)) (inserted_at i b (take live re)) (suc live)
    new_bears a b =
        let h = free_live c i live ch fits.room slot in
        let g : i ≤ length (take live se) = omega (arith, h, wide) in
        let g' : i ≤ length (take live re) = omega (arith, h, wide') in
        bears (inserted_at i a (take live se)) (inserted_at i b (take live re)) (free_put_holds c i (take live ch) vs long tall fits.ascends slot (a, b)) (inserted_beside i a b (take live se) (take live re) g g')
        (length_inserted i a (take live se) g ∙ ap suc alike ∙ sym (length_inserted i b (take live re) g'))
