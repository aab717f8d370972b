-- The test and its two cases.
use borrow.Author.Tests.{lt-ltb, le-ltb}
use Rattle.bitio_window.specs.Windows.{bits_remaining}
use Rattle.bitio.proofs.windows.bits_remaining.Goals as goal

pub returns-then-w : goal.returns-then-w
unfolding bits_remaining
returns-then-w c = simp (lt-ltb _ _ c.if-w.true)

pub returns : goal.returns
unfolding bits_remaining
returns c = simp (le-ltb _ _ c.if-w.false)
