-- An answer as seven words: 0 or the refusal's number; its values, or what the refusal returns, with zeros after them; the reader's window.
use Rattle.std.specs.Prelude.{ℕ, Bool, List, [], ◌∷◌, ℤ, get_or, Float, Ok, Err, Result as Answered}
use Rattle.std.specs.Int.{w32}
use mir.Val.{of_z, bool_byte}
use Rattle.bitio_window.specs.declared.Window.{Window}
use Rattle.bitio_window.specs.declared.BitError.{BitError}
use Rattle.bitio_window.specs.declared.Decoded.{Decoded as Pattern}
use Rattle.bitio_window.specs.declared.Decoded.TheVariants.{Number, NoNumber}
use Rattle.bitio_window.specs.Refusals.{Refusal}
use Rattle.bitio_window.specs.Parse.{Answer, got, refused, Result, value, refusal}
use Rattle.bitio_window.specs.Answers.{decoded_of}
use Rattle.bitio_window.specs.Windows.{window_at}
use Rattle.bitio_bits.specs.Floats.{Decoded, number, no_number}

abbrev pub seven : ℕ → List ℕ → Window → List ℕ
seven n v w = n ∷ get_or v 0 0 ∷ get_or v 1 0 ∷ get_or v 2 0 ∷ w.start.0 ∷ w.position.0 ∷ w.length ∷ []

abbrev pub refusal_words : Refusal → Window → List ℕ
refusal_words r w = seven r.number r.returns w

unfoldable pub words : {A : Type 0} → (A → List ℕ) → Answer A → List ℕ
words f (got a w) = seven 0 (f a) w
words f (refused r w) = refusal_words r w

-- of a call that has no reader: what it made, or no window
abbrev pub no_window : Window
no_window = window_at 0 0 0

unfoldable pub opened_words : Result Window → List ℕ
opened_words (value w) = seven 0 [] w
opened_words (refusal r) = refusal_words r no_window

unfoldable pub count_words : Window → Result ℕ → List ℕ
count_words w (value n) = seven 0 (n ∷ []) w
count_words w (refusal r) = refusal_words r w

-- the values of each kind
abbrev pub none : Unit {0} → List ℕ
none u = []

abbrev pub one : ℕ → List ℕ
one n = n ∷ []

abbrev pub flag_word : Bool → List ℕ
flag_word b = bool_byte b ∷ []

abbrev pub signed_word : ℤ → List ℕ
signed_word z = of_z w32 z ∷ []

abbrev pub window_words : Window → List ℕ
window_words w = w.start.0 ∷ w.position.0 ∷ w.length ∷ []

-- a float goes out beside the words; 1 and the bits where the pattern stands for no number
abbrev pub pattern : Decoded → List ℕ
pattern (number x) = []
pattern (no_number b) = 1 ∷ b ∷ []

abbrev pub pattern_words : Pattern Float ℕ → List ℕ
pattern_words p = pattern (decoded_of p)

abbrev pub float_left : Float → Decoded → Float
float_left before (number x) = x
float_left before (no_number b) = before

unfoldable pub float : Float → Answer Decoded → Float
float before (got x w) = float_left before x
float before (refused r w) = before

-- the same of what the code's read answers
abbrev pub number_left : {N B : Type 0} → N → Answered (Pattern N B) BitError → N
number_left before (Ok (Number x)) = x
number_left before (Ok (NoNumber b)) = before
number_left before (Err e) = before
