-- The words of what the call answers, and what it left in the tables.
use Rattle.std.proofs.Common.{ap, sym, ◌∙◌, rules}
use mir.Syntax.{w32}
use mir.ValLaws.{to_z-of_z}
use Rattle.packet_reading.specs.Memory.{columns_memory}
use Rattle.packet_reading.specs.Answers.{ReadReply}
use Rattle.packet.proofs.Determined.{memory_again}
use Rattle.exports_packet.specs.Packets.{bunch_words}
use Rattle.exports_packet.proofs.packets.gritwheel_read_bunch.Goals as goal

pub returns : goal.returns
returns c =
    let read = c.read_bunch-read in
    let m = columns_memory read.new.columns in
    let reply = rw (to_z-of_z w32 c.args.packet_id c.ranges.packet_id) at read.ensures.reply.0 in
    let left = sym (memory_again read.result read.new.at read.new.reader m) ∙ ap (λ (x : ReadReply). x.memory) reply in
    (c.of_read.ensures m ∙ ap bunch_words reply, search rules ∙ left)
