-- The fields in a row.
use Rattle.log_lines.proofs.Texts.{then}
use Rattle.log_lines.proofs.inner.lines.bunch_payload.Goals as goal

pub returns : goal.returns
returns c =
    then c.flag_field-flags.ensures
    (then c.number-count.ensures
    (then c.number-offset.ensures
    (then (rw c.state_of.ensures at c.letter-state.ensures) c.byte.ensures)))
