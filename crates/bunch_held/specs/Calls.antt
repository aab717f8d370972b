-- A call on the lent memory, in one form for all: unsound memory is refused; else the channel's step, laid in the memory.
use Rattle.std.specs.Prelude.{ℕ, cond, List, length, Result, Ok, Err}
use Rattle.bitio_window.specs.Refusals.{unsound}
use Rattle.bunch_held.specs.declared.Accumulator.{Accumulator}
use Rattle.bunch_held.specs.declared.BunchError.{BunchError}
use Rattle.bunch_held.specs.Memory.{HeldMemory, State, state_of, bytes_all, laid_in, total, accumulator_of}
use Rattle.bunch_held.specs.Sound.{memory_sound}
use Rattle.bunch_held.specs.Steps.{Act, BunchAnswer, refused, Limits, local, state_after}

abbrev pub limits_of : Accumulator → Limits
limits_of a = record { active = a.max_active; buffered = a.max_buffered_bits }

-- the state that the memory holds
abbrev pub held_by : Accumulator → HeldMemory → State
held_by a m = state_of a.active m

-- the test's answer, with how many bytes of the arena are used
abbrev pub tested : Accumulator → HeldMemory → Result ℕ BunchError
tested a m = cond (memory_sound a m) (Ok (length (bytes_all (held_by a m)))) (Err BunchError.Unsound)

-- the accumulator with a state's counts
abbrev pub counting : Accumulator → State → Accumulator
counting a s = accumulator_of a.max_active a.max_buffered_bits (length s) (total s)

pub record BunchReply : Type 0 where
  pub answer : BunchAnswer
  pub accumulator : Accumulator
  pub memory : HeldMemory
  pub output : List ℕ

-- a state with an answer and an output
abbrev pub replying : Accumulator → HeldMemory → BunchAnswer → List ℕ → State → BunchReply
replying a m answer output s = record { answer = answer; accumulator = counting a s; memory = laid_in s m; output = output }

-- "Calls on state … test 10" first; "These change no lent byte or state."
unfoldable pub called : Accumulator → HeldMemory → ℕ → Act → List ℕ → BunchReply
called a m c act output =
    let s = held_by a m in
    let x = local (limits_of a) s c act output in
    cond (memory_sound a m) (replying a m x.answer x.output (state_after (limits_of a) s c act output))
    (record { answer = refused unsound; accumulator = a; memory = m; output = output })
