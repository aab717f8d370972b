-- The words of what the call answers, and what it left in the packet.
use mathlib.Core.Path.{ap, ◌∙◌}
use Rattle.writer.specs.Answers.{WriteReply}
use Rattle.exports_writer.specs.Words.{written_words, written_header}
use Rattle.exports_writer.proofs.writes.gritwheel_write_bunch.Goals as goal

pub returns : goal.returns
unfolding written_header
returns c =
    let e = rw c.reason.ensures at c.write_bunch.ensures in
    (c.of_written.ensures ∙ ap (λ (r : WriteReply). written_words r.answer) e, ap (λ (r : WriteReply). r.packet) e)
