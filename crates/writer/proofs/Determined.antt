-- The calls' promises in the paper's terms determine the answer and the lent packet: no two answers of the code say the same.
use Prim.Native.Nat.{ℕ}
use mathlib.Core.Path.{◌≡◌, refl, ap}
use mathlib.Core.Bool.{cond}
use mathlib.Core.List.{List}
use Rattle.std.proofs.Common.{Ok, Err}
use lib.Dec.{eqb}
use lib.ListN.{get_or}
use Rattle.bitio_window.specs.Refusals.{Refusal, beyond, payload_too_long, payload_short, unwritable, no_room}
use Rattle.bitio_window.specs.Parse.{Result, value, refusal}
use Rattle.bitio.proofs.Determined.{determined}
use Rattle.writer.specs.declared.WriteError.{WriteError}
use Rattle.writer.specs.Answers.{write_paper, WriteReply, Written, of_written, replied}

-- a refusal by its number and what it returns
unwrite : Refusal → WriteError
unwrite r =
    cond (eqb r.number 5) (WriteError.CursorPastRoom (get_or r.returns 0 0) (get_or r.returns 1 0))
    (cond (eqb r.number 11) (WriteError.PayloadTooLong (get_or r.returns 0 0))
    (cond (eqb r.number 12) (WriteError.PayloadShort (get_or r.returns 0 0))
    (cond (eqb r.number 16) WriteError.Unwritable (WriteError.NoRoom (get_or r.returns 0 0)))))

unwrite_paper : (e : WriteError) → unwrite (write_paper e) ≡ e
unfolding unwrite beyond payload_too_long payload_short unwritable no_room
unwrite_paper (WriteError.CursorPastRoom p a) = refl
unwrite_paper (WriteError.PayloadTooLong c) = refl
unwrite_paper (WriteError.PayloadShort c) = refl
unwrite_paper WriteError.Unwritable = refl
unwrite_paper (WriteError.NoRoom b) = refl

abbrev back : Result ℕ → Written
back (value bit) = Ok (record { 0 = bit })
back (refusal r) = Err (unwrite r)

written_back : (r : Written) → back (of_written r) ≡ r
written_back (Ok bit) = refl
written_back (Err e) = ap Err (unwrite_paper e)

module _ (r s : Written) (p q : List ℕ) (e : replied r p ≡ replied s q) where
  pub written_determined : r ≡ s
  written_determined = determined of_written back written_back r s (ap (λ (x : WriteReply). x.answer) e)

  pub packet_determined : p ≡ q
  packet_determined = ap (λ (x : WriteReply). x.packet) e
