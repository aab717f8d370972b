-- A space and four marks.
use Rattle.log_lines.proofs.Texts.{then}
use Rattle.log_lines.proofs.inner.lines.flag_field.Goals as goal

pub returns : goal.returns
returns c =
    then (rw c.mark_of.ensures at c.letter-first.ensures)
    (then (rw c.mark_of-2.ensures at c.byte-second.ensures)
    (then (rw c.mark_of-3.ensures at c.byte-third.ensures) (rw c.mark_of-4.ensures at c.byte.ensures)))
