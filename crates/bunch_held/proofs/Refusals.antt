-- A refusal in the paper's terms says which case of the code it is.
use mathlib.Core.Path.{◌≡◌, refl}
use mathlib.Core.Bool.{cond}
use lib.Dec.{eqb}
use lib.ListN.{get_or}
use Rattle.bitio_window.specs.Refusals.{Refusal, unsound, payload_too_long, payload_short, output_short, too_few_places}
use Rattle.bunch_held.specs.declared.BunchError.{BunchError}
use Rattle.bunch_held.specs.Refusals.{error_paper}

-- a refusal by its number and what it returns
unfoldable pub unbunch : Refusal → BunchError
unbunch r =
    let n = get_or r.returns 0 0 in
    cond (eqb r.number 10) BunchError.Unsound
    (cond (eqb r.number 11) (BunchError.PayloadTooLong n)
    (cond (eqb r.number 12) (BunchError.PayloadShort n) (cond (eqb r.number 13) (BunchError.OutputShort n) (BunchError.ListFull n))))

pub unbunch_paper : (e : BunchError) → unbunch (error_paper e) ≡ e
unfolding unbunch unsound payload_too_long payload_short output_short too_few_places
unbunch_paper BunchError.Unsound = refl
unbunch_paper (BunchError.PayloadTooLong n) = refl
unbunch_paper (BunchError.PayloadShort n) = refl
unbunch_paper (BunchError.OutputShort n) = refl
unbunch_paper (BunchError.ListFull n) = refl
