-- The two halves are the line.
use Rattle.log_lines.proofs.Texts.{then}
use Rattle.log_lines.proofs.Halves.{halves}
use Rattle.log_lines.proofs.inner.lines.bunch_line.Goals as goal

pub returns : goal.returns
returns c = rw (halves c.args.line) at (then c.bunch_names-payload.ensures c.bunch_payload.ensures)
