-- Too few bits, or the window past them.
use mathlib.Core.Path.{sym}
use Rattle.bitio_window.proofs.Handed.{handed_on}
use Rattle.bitio_window.proofs.Steps.{skip_short, skip_there}
use Rattle.bitio_window.proofs.inner.skip.Goals as goal

pub returns-in_err-need : goal.returns-in_err-need
returns-in_err-need c d =
    let e = c.in_err-need.ensures.short in
    rw (handed_on c.from_residual.result c.in_err-need.field-0.0 c.args.w.now c.from_residual.ensures.1, e.1) (sym (skip_short d c.args.w.now c.args.count e.0))

pub returns : goal.returns
returns c d = rw c.advance.ensures (sym (skip_there d c.args.w.now c.args.count c.in_ok-need.ensures.there))
