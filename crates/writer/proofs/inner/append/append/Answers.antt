-- The words' counts and the payload's are the bunch's length; Calls has the test of room, Appending what is laid.
use Prim.Native.Nat.{ℕ, ◌+◌}
use mathlib.Core.Path.{◌∙◌, ap, ap₂, sym}
use mathlib.Core.List.{List}
use native.Mathlib.Omega.{arith}
use Rattle.std.proofs.lemmas.Result.{err_from_is_err_and}
use Rattle.bitio_window.specs.Refusals.{no_room}
use Rattle.bitio_window.specs.Parse.{value}
use Rattle.writer.specs.Answers.{write_refuses, bits_with}
use Rattle.writer.proofs.Appending.{front_some, back_some, length_bunch, put_bunch}
use Rattle.writer.proofs.Calls.{seventeen, puts, there}
use Rattle.writer.proofs.inner.append.append.Goals as goal

pub returns-in_err-found : goal.returns-in_err-found
returns-in_err-found c =
    let a = c.args in
    let n = length_bunch a.f a.payload.now a.f.payload_bit_count c.front-front.ensures c.back-back.ensures in
    let told = err_from_is_err_and c.from_residual.result c.from_residual.ensures.1 in
    rw (told.1, told.2, c.in_err-found.ensures.1)
    (ap (λ (k : ℕ). write_refuses (no_room (bits_with a.at k)) a.packet.now) (sym n) ∙ seventeen _ a.packet.now a.at _ (rw n c.in_err-found.ensures.0))

pub lay-requires : goal.lay-requires
lay-requires c =
    let a = c.args in
    let u = c.front-front.ensures in
    let v = c.back-back.ensures in
    let e = there a.packet.now (a.at + (c.front-front.result.count + c.back-back.result.count + a.f.payload_bit_count)) c.in_ok-found.ensures in (
      record { whole = u.whole; some = front_some a.f u; short = omega arith },
      record { whole = v.whole; some = back_some a.f v; short = omega arith },
      c.requires.2,
      omega arith,
      omega arith,
    )

pub returns : goal.returns
returns c =
    let a = c.args in
    let u = c.front-front.ensures in
    let v = c.back-back.ensures in
    let n = length_bunch a.f a.payload.now a.f.payload_bit_count u v in
    ap₂ (λ (k : ℕ) (q : List ℕ). record { answer = value (a.at + k); packet = q }) (sym n) (c.lay.ensures ∙ put_bunch a.f a.payload.now a.f.payload_bit_count u v a.packet.now a.at)
    ∙ puts _ a.packet.now a.at _ (rw n c.in_ok-found.ensures)
