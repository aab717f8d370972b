-- A reader that is opened, or cut out of another; or refused.
use Rattle.std.specs.Prelude.{◌≡◌, IfOk, Ok, Err, Result as Answered}
use Rattle.bitio_window.specs.declared.Window.{Window}
use Rattle.bitio_window.specs.declared.BitError.{BitError}
use Rattle.bitio_window.specs.Refusals.{paper}
use Rattle.bitio_window.specs.Parse.{Result, value, refusal, Parse}
use Rattle.bitio_window.specs.Answers.{answer_of}
use Rattle.bitio_reader.specs.declared.BitReader.{BitReader}
use Rattle.bitio_reader.specs.Readers.{window_of, Moved}

-- what opening comes to
abbrev pub opened_window : Answered BitReader BitError → Result Window
opened_window (Ok r) = value r.window
opened_window (Err e) = refusal (paper e)

-- Cutting by p at a reader's place hands out o, and leaves the reader where p says; both are over the same packet.
abbrev pub HandsOut : Parse Window → BitReader → Answered BitReader BitError → BitReader → Type 0
HandsOut p before o after = Moved (answer_of window_of) p before o after × IfOk o (λ r. r.packet ≡ before.packet)
