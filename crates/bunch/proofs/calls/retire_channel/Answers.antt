-- Past the test the inner form gives the reply.
use mathlib.Core.Path.{◌≡◌, sym, subst, ◌∙◌}
use borrow.Author.Rules.{rules}
use Rattle.bunch_held.specs.Memory.{memory_of}
use Rattle.std.specs.Prelude.{Err}
use Rattle.bunch_held.specs.Calls.{tested}
use Rattle.bunch_held.specs.Steps.{retiring, locally, local}
use Rattle.bunch_settling.proofs.Giving.{goes_back, refuses, ten, passed}
use Rattle.bunch.proofs.calls.retire_channel.Goals as goal

pub returns-clause-reply : goal.returns-clause-reply
unfolding locally local
returns-clause-reply c =
    let a = c.args in
    let m = memory_of a.memory.now in
    goes_back a.a.now m a.ch_index retiring a.output.now (passed _ _ _ (sym c.test.ensures ∙ c.in-Ok.is)) (search rules) (search rules) (search rules) c.retire_channel-answer.ensures.gives

pub returns-in_default-clause-reply : goal.returns-in_default-clause-reply
returns-in_default-clause-reply c =
    let a = c.args in
    let m = memory_of a.memory.now in
    let r = sym c.test.ensures ∙ c.in_default.is in
    let q = subst (λ e. tested a.a.now m ≡ Err e) (refuses a.a.now m r).1 r in
    rw c.unsound.ensures (ten a.a.now m a.ch_index retiring a.output.now q)

pub retire_channel-answer-requires : goal.retire_channel-answer-requires
retire_channel-answer-requires c = passed _ _ _ (sym c.test.ensures ∙ c.in-Ok.is)
