-- What a `?` hands on is the refusal that it met.
use mathlib.Core.Path.{◌≡◌, ap}
use Rattle.std.specs.Prelude.{Result, Ok, Err, IsErrAnd}
use Rattle.bitio_window.specs.declared.Window.{Window}
use Rattle.bitio_window.specs.declared.BitError.{BitError}
use Rattle.bitio_window.specs.Refusals.{paper}
use Rattle.bitio_window.specs.Parse.{refused}
use Rattle.bitio_window.specs.Answers.{answer_of}
use Rattle.field_walking.specs.declared.FieldError.{FieldError}
use Rattle.field_walking.specs.declared.Stop.{Stop}
use Rattle.field_walking.specs.declared.inner.Step.{Step}
use Rattle.field_walking.specs.Records.{looked}
use Rattle.field_walking.specs.Answers.{field_paper, stop_answer}

pub handed_on : (r : Result Step BitError) (e : BitError) (w : Window) → IsErrAnd r (λ x. x ≡ e) → answer_of looked r w ≡ refused (paper e) w
handed_on (Ok v) e w h = absurd h
handed_on (Err x) e w h = ap (λ (y : BitError). refused (paper y) w) h

-- as a walk's refusal
pub walk_handed_on : (r : Result Stop FieldError) (e : BitError) (w : Window) → IsErrAnd r (λ x. x ≡ FieldError.Bits e) → stop_answer r w ≡ refused (paper e) w
walk_handed_on (Ok v) e w h = absurd h
walk_handed_on (Err x) e w h = ap (λ (y : FieldError). refused (field_paper y) w) h
