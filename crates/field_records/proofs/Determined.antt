-- A walk's promise determines its answer and both lists: no two outcomes of the code say the same.
use Prim.Native.Nat.{ℕ}
use mathlib.Core.Path.{◌≡◌, ap}
use mathlib.Core.List.{List}
use Rattle.bitio_window.specs.declared.Window.{Window}
use Rattle.field_walking.specs.declared.Walk.{Walk}
use Rattle.field.proofs.Determined.{walk_determined, reader_determined, places_determined}
use Rattle.field_walking.specs.declared.FieldRecord.{FieldRecord}
use Rattle.field_records.specs.Walks.{ListedRecords, of_lists}

module _ (r s : Walk) (u v : Window) (rs rs' : List FieldRecord) (ps ps' : List (List ℕ)) (e : of_lists r u rs ps ≡ of_lists s v rs' ps') where
  pub answer_determined : (r ≡ s) × (u ≡ v)
  answer_determined = walk_determined r s u v ps ps' (ap (λ (x : ListedRecords). x.walked) e)

  -- where the walk leaves the reader
  pub window_determined : u ≡ v
  window_determined = reader_determined r s u v ps ps' (ap (λ (x : ListedRecords). x.walked) e)

  pub records_determined : rs ≡ rs'
  records_determined = ap (λ (x : ListedRecords). x.records) e

  pub numbers_determined : ps ≡ ps'
  numbers_determined = places_determined r s u v ps ps' (ap (λ (x : ListedRecords). x.walked) e)
