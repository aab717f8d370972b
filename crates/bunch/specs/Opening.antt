-- Opening the accumulator: "The accumulator's opening gives 9 for nothing else."
use Rattle.std.specs.Prelude.{ℕ, cond, Result, Ok, Err}
use Rattle.bitio_window.specs.Refusals.{Refusal, unfit}
use Rattle.bunch_held.specs.declared.Accumulator.{Accumulator}
use Rattle.bunch_held.specs.Memory.{HeldMemory, accumulator_of}
use Rattle.bunch_held.specs.Sound.{fit}
use Rattle.bunch.specs.declared.Unfit.{Unfit}

abbrev pub of_opened_accumulator : Result Accumulator Unfit → Result Accumulator Refusal
of_opened_accumulator (Ok a) = Ok a
of_opened_accumulator (Err e) = Err unfit

-- with nothing held
abbrev pub holding_nothing : ℕ → ℕ → Accumulator
holding_nothing active buffered = accumulator_of active buffered 0 0

unfoldable pub opened_accumulator : ℕ → ℕ → HeldMemory → Result Accumulator Refusal
opened_accumulator active buffered m = cond (fit active buffered m) (Ok (holding_nothing active buffered)) (Err unfit)
