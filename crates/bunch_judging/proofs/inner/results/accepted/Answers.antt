-- Field by field; the header, the kind and the overlap by their own functions.
use mathlib.Core.Path.{refl}
use Rattle.bunch_judging.proofs.inner.results.accepted.Goals.{then-zero, else-zero}
use Rattle.bunch_judging.proofs.inner.results.accepted.Goals as goal

pub returns : goal.returns
returns c =
    elim c.if-zero.branch [
      | then-zero w ↦ rw (w.if-zero.true, w.told-is, c.is_overlapping-overlapping.ensures, c.flagged-header.ensures) refl
      | else-zero w ↦ rw (w.if-zero.false, w.told-is, c.is_overlapping-overlapping.ensures, c.flagged-header.ensures) refl
    ]
