-- What adding a fragment answers, in the paper's terms.
use Rattle.std.specs.Prelude.{ℕ, List, map, Result, Ok, Err}
use Rattle.bunch_judging.specs.declared.Displaced as By-value
use Rattle.bunch_judging.specs.declared.PartialDiscardCause.{PartialDiscardCause}
use Rattle.bunch_judging.specs.Standings.{of_displacement}
use Rattle.bunch_held.specs.declared.Accumulator.{Accumulator}
use Rattle.bunch_held.specs.declared.BunchError.{BunchError}
use Rattle.bunch_held.specs.Memory.{HeldMemory}
use Rattle.bunch_held.specs.Refusals.{error_paper}
use Rattle.bunch_held.specs.Steps.{MessageOut, BunchAnswer, refused, judged}
use Rattle.bunch_held.specs.Calls.{BunchReply}
use Rattle.bunch_joining.specs.declared.Judged.{Judged}

-- displaced messages as the code has them
abbrev pub told_by : By-value.Displaced → MessageOut × PartialDiscardCause
told_by d = (record { header = d.header; bits = d.bit_count }, d.cause)

abbrev pub of_judged : Result Judged BunchError → BunchAnswer
of_judged (Ok j) = judged j.result (map told_by (of_displacement j.displaced))
of_judged (Err e) = refused (error_paper e)

-- with the accumulator, the memory and the output as they are left
abbrev pub of_added : Result Judged BunchError → Accumulator → HeldMemory → List ℕ → BunchReply
of_added r a m output = record { answer = of_judged r; accumulator = a; memory = m; output = output }
