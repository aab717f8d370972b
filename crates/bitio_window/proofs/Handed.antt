-- What a `?` hands on is the refusal that it met.
use mathlib.Core.Path.{◌≡◌, ap}
use Rattle.std.specs.Prelude.{Result, Ok, Err, IsErrAnd}
use Rattle.bitio_window.specs.declared.Window.{Window}
use Rattle.bitio_window.specs.declared.BitError.{BitError}
use Rattle.bitio_window.specs.Refusals.{paper}
use Rattle.bitio_window.specs.Parse.{refused}
use Rattle.bitio_window.specs.Answers.{answer}

pub handed_on : {A : Type 0} (r : Result A BitError) (e : BitError) (w : Window) → IsErrAnd r (λ x. x ≡ e) → answer r w ≡ refused (paper e) w
handed_on (Ok v) e w h = absurd h
handed_on (Err x) e w h = ap (λ (y : BitError). refused (paper y) w) h
