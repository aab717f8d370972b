-- Past the test the inner form gives the reply.
use mathlib.Core.Path.{sym, ◌∙◌}
use borrow.Author.Rules.{rules}
use Rattle.bunch_held.specs.Memory.{memory_of}
use Rattle.bunch_held.specs.Steps.{adding}
use Rattle.bunch_settling.proofs.Giving.{goes_back, ten, passed}
use Rattle.std.proofs.lemmas.Result.{err_from_is_err_and}
use Rattle.bunch.proofs.calls.add_fragment.Goals as goal

pub returns-clause-reply : goal.returns-clause-reply
returns-clause-reply c =
    let a = c.args in
    let m = memory_of a.memory.now in
    goes_back a.a.now m a.ch_index (adding (record { header = a.header; bits = a.bits; payload = a.payload.now })) a.output.now (passed _ _ _ (sym c.test.ensures ∙ c.in_ok-used.was)) (search rules) (search rules) (search rules) c.add_fragment-answer.ensures.gives

pub returns-in_err-used-clause-reply : goal.returns-in_err-used-clause-reply
returns-in_err-used-clause-reply c =
    let a = c.args in
    let m = memory_of a.memory.now in
    let e = err_from_is_err_and c.from_residual.result c.from_residual.ensures.1 in
    rw (e.1, e.2) (ten a.a.now m a.ch_index (adding (record { header = a.header; bits = a.bits; payload = a.payload.now })) a.output.now (sym c.test.ensures ∙ c.in_err-used.was))

pub add_fragment-answer-requires : goal.add_fragment-answer-requires
add_fragment-answer-requires c = passed _ _ _ (sym c.test.ensures ∙ c.in_ok-used.was)
