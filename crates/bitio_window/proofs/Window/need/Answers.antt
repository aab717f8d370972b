-- 1 where fewer are left.
use Rattle.bitio_window.proofs.Window.need.Goals as goal

pub returns-then-left-n-clause-short : goal.returns-then-left-n-clause-short
returns-then-left-n-clause-short c = (rw c.left.ensures at c.if-left-n.true, c.too_few_bits.ensures)
