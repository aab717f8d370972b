-- Reading in a row: each read goes on where the last one stopped, and the first refusal ends the row.
use Rattle.std.specs.Prelude.{ℕ, ◌+◌, List, Bool, true, false}
use Rattle.bitio_window.specs.declared.Window.{Window}
use Rattle.bitio_window.specs.declared.Place.{Place}
use Rattle.bitio_window.specs.Refusals.{Refusal, place_of}

infixl 10 ◌>>=◌
infixl 10 ◌>>◌
-- what a read comes to: a value, or a refusal; and the window where the reader then stands
pub data Answer (A : Type 0) : Type 0 where
  got : A → Window → Answer A
  refused : Refusal → Window → Answer A

-- the same of a call that has no reader
pub data Result (A : Type 0) : Type 0 where
  value : A → Result A
  refusal : Refusal → Result A

abbrev pub Parse : Type 0 → Type 0
Parse A = List ℕ → Window → Answer A

abbrev pub and_then : {A B : Type 0} → Answer A → (A → Window → Answer B) → Answer B
and_then (got a w) k = k a w
and_then (refused e w) k = refused e w

-- one read, and then those that its value asks for
unfoldable pub ◌>>=◌ : {A B : Type 0} → Parse A → (A → Parse B) → Parse B
◌>>=◌ p k d w = and_then (p d w) (λ a. k a d)

unfoldable pub ◌>>◌ : {A B : Type 0} → Parse A → Parse B → Parse B
◌>>◌ p q d w = and_then (p d w) (λ a. q d)

unfoldable pub give : {A : Type 0} → A → Parse A
give a d w = got a w

unfoldable pub refuse : {A : Type 0} → Refusal → Parse A
refuse e d w = refused e w

-- where the next read is
unfoldable pub place : Parse Place
place d w = got (place_of w) w

-- the refusal, with the reader unmoved, where the test says so
unfoldable pub refuse_if : Bool → Refusal → Parse Unit
refuse_if true e = refuse e
refuse_if false e = give tt

-- the read where it is asked for, else the value and nothing read
unfoldable pub read_if : {A : Type 0} → Bool → A → Parse A → Parse A
read_if true a p = p
read_if false a p = give a

-- the same window, n bits on
abbrev pub advanced : Window → ℕ → Window
advanced w n = record { start = w.start; position = record { 0 = w.position.0 + n }; length = w.length }
