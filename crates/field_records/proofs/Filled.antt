-- `filled` place by place: nothing written, one record more, and no place more or less than before.
use mathlib.Core.Path.{◌≡◌, refl, sym, ◌∙◌, ap}
use mathlib.Core.List.{List, [], ◌∷◌, ◌++◌, map, map-append}
use Prim.Native.Nat.{ℕ, suc, ◌≤◌, ◌<◌}
use native.Mathlib.Omega.{arith}
use lib.ListN.{length, get_or, set, take, drop, length-append, length-drop, length-map}
use lib.Seq.{length-take-le, take-suc, drop-cons, set_at, append_snoc}
use Rattle.bitio_window.specs.declared.Window.{Window}
use Rattle.field_walking.specs.declared.Walk.{Walk}
use Rattle.field_walking.specs.Walks.{Walked}
use Rattle.field_walking.specs.Answers.{of_walk}
use Rattle.field_walking.specs.declared.FieldRecord.{FieldRecord}
use Rattle.field_records.specs.declared.Stream.{Stream}
use Rattle.field_records.specs.Records.{record_of, filled}
use Rattle.field_records.specs.Walks.{walked_into, listed_records, of_lists}

module _ (ps : List (List ℕ)) (rs : List FieldRecord) where
  pub filled_none : filled 0 ps rs ≡ rs
  unfolding filled
  filled_none = refl

  module _ (n : ℕ) (h : n ≤ length ps) where
    front : length (map record_of (take n ps)) ≡ n
    front = length-map (take n ps) record_of ∙ length-take-le n ps h

    pub length_filled : n ≤ length rs → length (filled n ps rs) ≡ length rs
    unfolding filled
    length_filled f = simp (length-append, length-drop, front) (omega arith)

  pub filled_next : (i : ℕ) → i < length ps → i < length rs → set (filled i ps rs) i (record_of (get_or ps i [])) ≡ filled (suc i) ps rs
  unfolding filled
  filled_next i h f =
      let r = record_of (get_or ps i []) in
      let more : map record_of (take (suc i) ps) ≡ map record_of (take i ps) ++ (r ∷ []) = ap (map record_of) (take-suc ps i [] h) ∙ map-append record_of (take i ps) (get_or ps i [] ∷ []) in
      ap (λ (l : List FieldRecord). set (map record_of (take i ps) ++ l) i r) (drop-cons rs i r f)
      ∙ set_at (map record_of (take i ps)) (get_or rs i r) (drop (suc i) rs) r i (front i (omega arith))
      ∙ sym (ap (λ (l : List FieldRecord). l ++ drop (suc i) rs) more ∙ append_snoc (map record_of (take i ps)) r (drop (suc i) rs))

-- the numbers' walk and the records filled of it, as one meaning
pub lists : (s : Stream) (d : List ℕ) (rs : List FieldRecord) (ps : List (List ℕ)) (w : Window) (r : Walk) (u : Window) (rs' : List FieldRecord) (ps' : List (List ℕ)) → of_walk r u ps' ≡ walked_into (length rs) s d ps w
    → rs' ≡ filled r.count ps' rs → of_lists r u rs' ps' ≡ listed_records s d rs ps w
unfolding listed_records
lists s d rs ps w r u rs' ps' e f =
    ap (λ (l : List FieldRecord). of_lists r u l ps') f ∙ ap (λ (x : Walked). record { records = filled x.count x.places rs; walked = x }) e
