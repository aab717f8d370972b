-- Each answer of the code in the paper's terms: a value, or a refusal by its number with what it returns; and where the reader then stands.
use Rattle.std.specs.Prelude.{ℕ, Float, Ok, Err, Result as Answered}
use Rattle.bitio_window.specs.declared.Window.{Window}
use Rattle.bitio_window.specs.declared.BitError.{BitError}
use Rattle.bitio_window.specs.declared.Decoded.{Decoded as Pattern}
use Rattle.bitio_window.specs.declared.Decoded.TheVariants.{Number, NoNumber}
use Rattle.bitio_window.specs.Refusals.{paper}
use Rattle.bitio_window.specs.Parse.{Answer, got, refused, Result, value, refusal}
use Rattle.bitio_bits.specs.Floats.{Decoded, number, no_number}

-- what a read answers, and where it leaves the reader
abbrev pub answer : {A : Type 0} → Answered A BitError → Window → Answer A
answer (Ok v) w = got v w
answer (Err e) w = refused (paper e) w

-- the same of a read whose values stand for others
abbrev pub answer_of : {A B : Type 0} → (A → B) → Answered A BitError → Window → Answer B
answer_of f (Ok v) w = got (f v) w
answer_of f (Err e) w = refused (paper e) w

-- the same of a call that moves no reader
abbrev pub outcome : {A : Type 0} → Answered A BitError → Result A
outcome (Ok v) = value v
outcome (Err e) = refusal (paper e)

-- a float, or the bits of a pattern that stands for no number
abbrev pub decoded_of : Pattern Float ℕ → Decoded
decoded_of (Number x) = number x
decoded_of (NoNumber b) = no_number b
