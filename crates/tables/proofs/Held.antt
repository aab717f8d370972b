-- What a table's columns hold after an edit by its slot: the channels, the values, and how many.
use mathlib.Core.Path.{◌≡◌, sym, ap, ◌∙◌}
use mathlib.Core.Bool.{true}
use mathlib.Core.List.{List}
use Prim.Native.Nat.{ℕ, suc}
use native.Mathlib.Omega.{arith}
use lib.ListN.{length, set, length-set}
use Rattle.std.specs.Prelude.{Ok, Err}
use Rattle.tables.specs.Columns.{inserted_at, removed_at, ascending}
use Rattle.tables.specs.Tables.{Table, put, without, channels, values, entries, slot_of}
use Rattle.tables.proofs.Columns.{length_inserted, length_removed, length_beside, beside_first, beside_second}
use Rattle.tables.proofs.Join.{at_within, at_put, at_without, free_within, free_put}

-- a table and its columns
pub record Holds {A : Type 0} (t : Table A) (cs : List ℕ) (vs : List A) (n : ℕ) : Type 0 where
  pub first : channels t ≡ cs
  pub second : values t ≡ vs
  pub size : length t ≡ n

module _ {A : Type 0} where
  pub holds : (cs : List ℕ) (vs : List A) {live : ℕ} → length cs ≡ live → length vs ≡ live → Holds (entries cs vs) cs vs live
  holds cs vs h k =
      let e : length cs ≡ length vs = h ∙ sym k in
      record { first = beside_first cs vs e; second = beside_second cs vs e; size = length_beside cs vs e ∙ h }

  holds_at : {t : Table A} {cs : List ℕ} {vs : List A} {live : ℕ} → t ≡ entries cs vs → length cs ≡ live → length vs ≡ live → Holds t cs vs live
  holds_at {cs = cs} {vs = vs} e h k = rw e (holds cs vs h k)

  module _ (c i : ℕ) (cs : List ℕ) (vs : List A) {live : ℕ} (h : length cs ≡ live) (k : length vs ≡ live) (ascends : ascending cs ≡ true) where
    module _ (slot : slot_of c cs ≡ Ok i) where
      pub at_put_holds : (v : A) → Holds (put c v (entries cs vs)) cs (set vs i v) live
      at_put_holds v = holds_at (at_put c i cs slot vs (h ∙ sym k) ascends v) h (length-set vs i v ∙ k)

      pub at_without_holds : {n : ℕ} → suc n ≡ live → Holds (without c (entries cs vs)) (removed_at i cs) (removed_at i vs) n
      at_without_holds e =
          let w = at_within c i cs slot in
          let p = length_removed i cs w in
          let q = length_removed i vs (omega (arith, w, h, k)) in
          holds_at (at_without c i cs slot vs (h ∙ sym k) ascends) (omega (arith, p, h, e)) (omega (arith, q, k, e))

    module _ (slot : slot_of c cs ≡ Err i) where
      pub free_put_holds : (v : A) → Holds (put c v (entries cs vs)) (inserted_at i c cs) (inserted_at i v vs) (suc live)
      free_put_holds v =
          let w = free_within c i cs slot in
          holds_at (free_put c i cs slot vs (h ∙ sym k) ascends v) (length_inserted i c cs w ∙ ap suc h) (length_inserted i v vs (omega (arith, w, h, k)) ∙ ap suc k)
