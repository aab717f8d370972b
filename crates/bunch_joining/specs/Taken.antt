-- What taking and retiring answer, in the paper's terms.
use Rattle.std.specs.Prelude.{ℕ, List, Option, Some, None, Result, Ok, Err}
use Rattle.bunch_held.specs.declared.Accumulator.{Accumulator}
use Rattle.bunch_held.specs.Memory.{HeldMemory}
use Rattle.bunch_held.specs.Refusals.{error_paper}
use Rattle.bunch_held.specs.Steps.{BunchAnswer, refused, handed, nothing}
use Rattle.bunch_held.specs.Calls.{BunchReply}
use Rattle.bunch_held.specs.declared.BunchError.{BunchError}
use Rattle.bunch_joining.specs.declared.PreservedPartial.{PreservedPartial}

abbrev pub of_handed : Result (Option PreservedPartial) BunchError → BunchAnswer
of_handed (Ok (Some p)) = handed (record { header = p.header; bits = p.bit_count })
of_handed (Ok None) = nothing
of_handed (Err e) = refused (error_paper e)

-- with the accumulator, the memory and the output as they are left
abbrev pub of_taken : Result (Option PreservedPartial) BunchError → Accumulator → HeldMemory → List ℕ → BunchReply
of_taken r a m output = record { answer = of_handed r; accumulator = a; memory = m; output = output }
