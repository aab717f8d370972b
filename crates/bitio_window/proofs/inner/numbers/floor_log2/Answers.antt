-- What the leading zeros leave is the floor of the logarithm: the laws of Logs.
use mathlib.Core.Path.{refl}
use Rattle.bitio_window.proofs.Logs.{zeros_few, zeros_leave, log2_few, log2_le, log2_next}
use Rattle.bitio_window.proofs.inner.numbers.floor_log2.Goals as goal

pub overflow_sub-result : goal.overflow_sub-result
overflow_sub-result c = zeros_few c.args.max c.requires c.ranges.max.fits

pub returns : goal.returns
returns c =
    let m = c.args.max in
    let f = c.ranges.max.fits in
    rw (zeros_leave m c.requires f) (refl, log2_few m c.requires f, log2_le m c.requires f, log2_next m c.requires f)
