-- The words of what the call answers, and what it left in the packet.
use mathlib.Core.Path.{ap, ◌∙◌}
use Rattle.writer.specs.Answers.{WriteReply}
use Rattle.exports_writer.specs.Words.{written_words}
use Rattle.exports_writer.proofs.writes.gritwheel_close_packet.Goals as goal

pub returns : goal.returns
returns c = let e = c.close_packet.ensures in (c.of_written.ensures ∙ ap (λ (r : WriteReply). written_words r.answer) e, ap (λ (r : WriteReply). r.packet) e)
