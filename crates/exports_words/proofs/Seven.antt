-- The words are seven.
use Prim.Native.Nat.{ℕ}
use mathlib.Core.Path.{◌≡◌, refl}
use mathlib.Core.List.{List}
use lib.ListN.{length}
use Rattle.bitio_window.specs.Parse.{Answer, got, refused}
use Rattle.exports_words.specs.Words.{words}

pub seven_words : {A : Type 0} (f : A → List ℕ) (a : Answer A) → length (words f a) ≡ 7
unfolding words
seven_words f (got a w) = refl
seven_words f (refused r w) = refl
