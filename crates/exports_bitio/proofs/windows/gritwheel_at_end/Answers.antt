-- Whether the window that was made is at its end.
use mathlib.Core.Path.{◌∙◌}
use Rattle.exports_bitio.proofs.windows.gritwheel_at_end.Goals as goal

pub returns : goal.returns
returns c = c.at_end.ensures ∙ rw c.window_at.ensures
