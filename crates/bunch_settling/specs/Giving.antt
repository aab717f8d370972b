-- What a call's inner form gives: the reply of a channel's step, and memory that the next call can go on with.
use Rattle.std.specs.Prelude.{ℕ, ◌≡◌, List}
use Rattle.bunch_held.specs.declared.Accumulator.{Accumulator}
use Rattle.bunch_held.specs.Memory.{HeldMemory}
use Rattle.bunch_held.specs.Steps.{BunchAnswer, Local, holding}
use Rattle.bunch_held.specs.Calls.{held_by, replying, BunchReply}
use Rattle.bunch_settling.specs.declared.inner.messages.Settled.{Settled}
use Rattle.bunch_settling.specs.Settling.{Using}

abbrev pub given_reply : BunchAnswer → Settled → HeldMemory → List ℕ → BunchReply
given_reply answer r m output = record { answer = answer; accumulator = r.accumulator; memory = m; output = output }

pub record Gives (a : Accumulator) (m : HeldMemory) (c : ℕ) (x : Local) (answer : BunchAnswer) (r : Settled) (after : HeldMemory)
    (output : List ℕ) : Type 0 where
  pub reply_is : given_reply answer r after output ≡ replying a m x.answer x.output (holding c x.held (held_by a m))
  pub goes_on : Using r.accumulator after r.used
