-- What the promise of a walk into field records says of the words and of the lent memory.
use Prim.Native.Nat.{ℕ, zero, suc, ◌<◌}
use native.Mathlib.Omega.{arith}
use mathlib.Core.Path.{◌≡◌, refl, ap, ◌∙◌}
use mathlib.Core.List.{List}
use Rattle.bitio_window.specs.declared.Window.{Window}
use Rattle.field_walking.specs.declared.FieldRecord.{FieldRecord}
use Rattle.field_walking.specs.declared.Walk.{Walk}
use Rattle.field_walking.specs.Answers.{of_walk}
use Rattle.field_records.specs.Walks.{ListedRecords, of_lists}
use Rattle.exports_words.specs.Walks.{walk_words}
use Rattle.exports_field.specs.Streams.{unlisted, listed_by}

pub listed : (x : Walk) (u : Window) {rs : List FieldRecord} {places : List (List ℕ)} {m : ListedRecords} {r : List ℕ} → of_lists x u rs places ≡ m → r ≡ walk_words (of_walk x u places) → (r ≡ walk_words m.walked) × (rs ≡ m.records) × (places ≡ m.walked.places)
listed x u e f =
    (f ∙ ap (λ (y : ListedRecords). walk_words y.walked) e, ap (λ (y : ListedRecords). y.records) e, ap (λ (y : ListedRecords). y.walked.places) e)

-- a word above 2 says no stream
pub none_listed : (word count : ℕ) → 2 < word → listed_by word count ≡ unlisted word
unfolding listed_by
none_listed zero count h = absurd (omega (arith, h))
none_listed (suc zero) count h = absurd (omega (arith, h))
none_listed (suc (suc zero)) count h = absurd (omega (arith, h))
none_listed (suc (suc (suc n))) count h = refl
