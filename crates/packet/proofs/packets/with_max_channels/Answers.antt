-- Both ways of the test.
use mathlib.Core.Path.{sym, ◌∙◌}
use Rattle.packet_reading.specs.Memory.{tables_fit}
use Rattle.packet.specs.Answers.{opened_reader}
use Rattle.packet.proofs.packets.with_max_channels.Goals as goal

pub returns-then-fitting : goal.returns-then-fitting
unfolding opened_reader tables_fit
returns-then-fitting c = rw (sym c.fitting.ensures ∙ c.if-fitting.true)

pub returns : goal.returns
unfolding opened_reader tables_fit
returns c = rw (sym c.fitting.ensures ∙ c.if-fitting.false)
