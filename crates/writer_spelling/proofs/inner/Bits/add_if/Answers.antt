-- Both numbers are as the bits that are wanted.
use native.Mathlib.Omega.{arith}
use Rattle.writer_spelling.proofs.Spelling.{none_wide, wants}
use Rattle.writer_spelling.proofs.inner.Bits.add_if.Goals as goal

pub add-requires : goal.add-requires
add-requires c =
    let a = c.args in
    let p = c.requires in
    (p.0, rw (c.only_if.ensures.0, c.only_if-2.ensures.0) (none_wide a.wanted a.value a.width p.1), omega arith)

pub returns : goal.returns
returns c =
    let a = c.args in
    wants a.wanted a.value a.width (rw (c.only_if.ensures.0, c.only_if-2.ensures.0) at c.add.ensures)
