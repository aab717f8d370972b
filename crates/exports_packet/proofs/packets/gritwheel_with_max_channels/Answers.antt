-- The words of what the call answers.
use mathlib.Core.Path.{ap, ◌∙◌}
use Rattle.exports_packet.specs.Packets.{reader_words}
use Rattle.exports_packet.proofs.packets.gritwheel_with_max_channels.Goals as goal

pub returns : goal.returns
returns c = c.of_opened.ensures ∙ ap reader_words c.with_max_channels-opened.ensures
