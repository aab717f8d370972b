-- The tests are laws of Calls; past them `append`.
use mathlib.Core.Path.{◌∙◌, sym}
use native.Mathlib.Omega.{arith}
use Rattle.std.proofs.lemmas.Result.{err_from_is_err_and}
use Rattle.writer_spelling.specs.Header.{fields_of, bunch_bits}
use Rattle.writer.proofs.Calls.{five, sixteen, eleven, twelve, appends}
use Rattle.writer.proofs.writing.write_bunch.Goals as goal

pub returns-in_err-reached : goal.returns-in_err-reached
returns-in_err-reached c =
    let a = c.args in
    let told = err_from_is_err_and c.from_residual.result c.from_residual.ensures.1 in
    rw (told.1, told.2, c.in_err-reached.ensures.1) (five a.header a.payload.now a.count a.packet.now a.at.0 c.in_err-reached.ensures.0)

pub returns-then-not-writable : goal.returns-then-not-writable
returns-then-not-writable c =
    let a = c.args in
    sixteen a.header a.payload.now a.count a.packet.now a.at.0 c.in_ok-reached.ensures (sym c.writable.ensures ∙ c.if-not-writable.true)

pub returns-then-count-gt-MAX_PAYLOAD_BITS : goal.returns-then-count-gt-MAX_PAYLOAD_BITS
returns-then-count-gt-MAX_PAYLOAD_BITS c =
    let a = c.args in
    eleven a.header a.payload.now a.count a.packet.now a.at.0 c.in_ok-reached.ensures (sym c.writable.ensures ∙ c.if-not-writable.false) (omega arith)

pub returns-then-past : goal.returns-then-past
returns-then-past c =
    let a = c.args in
    twelve a.header a.payload.now a.count a.packet.now a.at.0 c.in_ok-reached.ensures (sym c.writable.ensures ∙ c.if-not-writable.false) (omega arith) (sym c.past.ensures ∙ c.if-past.true)

pub returns : goal.returns
unfolding fields_of bunch_bits
returns c =
    let a = c.args in
    rw c.fields_of.ensures.0 at c.append.ensures
    ∙ appends a.header a.payload.now a.count a.packet.now a.at.0 c.in_ok-reached.ensures (sym c.writable.ensures ∙ c.if-not-writable.false) (omega (arith, c.if-count-gt-MAX_PAYLOAD_BITS.false)) (sym c.past.ensures ∙ c.if-past.false)
