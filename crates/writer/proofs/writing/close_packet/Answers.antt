-- The tests are laws of Calls; past them one bit.
use Prim.Native.Nat.{ℕ, ◌+◌, ◌*◌, ◌/◌}
use mathlib.Core.Path.{◌∙◌, ap}
use mathlib.Core.Bool.{true}
use mathlib.Core.List.{List, [], ◌∷◌}
use Rattle.std.proofs.lemmas.Result.{err_from_is_err_and}
use Rattle.bitio_window.specs.Parse.{value}
use Rattle.writer_spelling.specs.Bits.{number_bits}
use Rattle.writer.proofs.Calls.{close_five, close_adds, seventeen, puts}
use Rattle.writer.proofs.writing.close_packet.Goals as goal

pub returns-in_err-reached : goal.returns-in_err-reached
returns-in_err-reached c =
    let told = err_from_is_err_and c.from_residual.result c.from_residual.ensures.1 in
    rw (told.1, told.2, c.in_err-reached.ensures.1) (close_five c.args.packet.now c.args.at.0 c.in_err-reached.ensures.0)

pub returns-in_err-found : goal.returns-in_err-found
returns-in_err-found c =
    let a = c.args in
    let told = err_from_is_err_and c.from_residual-in_err-found.result c.from_residual-in_err-found.ensures.1 in
    rw (told.1, told.2, c.in_err-found.ensures.1)
    (seventeen (true ∷ []) a.packet.now a.at.0 _ c.in_err-found.ensures.0 ∙ close_adds a.packet.now a.at.0 c.in_ok-reached.ensures)

pub returns : goal.returns
unfolding number_bits
returns c =
    let a = c.args in
    let p = a.packet.now in
    ap (λ (q : List ℕ). record { answer = value (8 * (a.at.0 / 8 + 1)); packet = q }) c.push.ensures
    ∙ puts (true ∷ []) p a.at.0 _ c.in_ok-found.ensures
    ∙ close_adds p a.at.0 c.in_ok-reached.ensures
