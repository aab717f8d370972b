-- What a float's read comes to in the paper's terms: its words, and what it leaves in a lent float.
use mathlib.Core.Path.{◌≡◌, refl}
use Prim.Native.Nat.{ℕ}
use Rattle.std.specs.Prelude.{Float, Ok, Err, Result}
use Rattle.bitio_window.specs.declared.Window.{Window}
use Rattle.bitio_window.specs.declared.BitError.{BitError}
use Rattle.bitio_window.specs.declared.Decoded.{Decoded as Pattern}
use Rattle.bitio_window.specs.declared.Decoded.TheVariants.{Number, NoNumber}
use Rattle.bitio_window.specs.Answers.{answer, answer_of, decoded_of}
use Rattle.exports_words.specs.Words.{words, pattern, pattern_words, float, number_left}

pub float_words : (r : Result (Pattern Float ℕ) BitError) (w : Window) → words pattern_words (answer r w) ≡ words pattern (answer_of decoded_of r w)
unfolding words
float_words (Ok v) w = refl
float_words (Err e) w = refl

pub float_stored : (before : Float) (r : Result (Pattern Float ℕ) BitError) (w : Window) → number_left before r ≡ float before (answer_of decoded_of r w)
unfolding float
float_stored before (Ok (Number x)) w = refl
float_stored before (Ok (NoNumber b)) w = refl
float_stored before (Err e) w = refl
