-- The tests are laws of Calls; past them `read`, whose state the first test showed.
use mathlib.Core.Path.{refl, ap, ◌∙◌}
use mir.Syntax.{w32}
use mir.Val.{of_z}
use mir.ValLaws.{to_z-of_z}
use Rattle.packet_reading.specs.Memory.{columns_memory}
use Rattle.packet.proofs.Soundness.{state}
use Rattle.packet.proofs.Calls.{handed_on, ten, eight, five, answered}
use Rattle.packet.proofs.packets.read_bunch.Goals as goal

pub returns-in_err-sound-clause-reply : goal.returns-in_err-sound-clause-reply
returns-in_err-sound-clause-reply c =
    let a = c.args in
    let s = c.in_err-sound.ensures.broken in (
      handed_on c.from_residual.result c.in_err-sound.field-0.0 c.from_residual.ensures.1 a.at.now a.reader.now _
          ∙ rw s.1 (ten a.packet.now a.packet_id a.at.now.0 a.reader.now _ s.0),
      refl,
    )

pub returns-then-size-gt-MAX_PACKET_BYTES-clause-reply : goal.returns-then-size-gt-MAX_PACKET_BYTES-clause-reply
returns-then-size-gt-MAX_PACKET_BYTES-clause-reply c =
    let a = c.args in
    (eight a.packet.now a.packet_id a.at.now.0 a.reader.now _ c.in_ok-sound.ensures.there c.if-size-gt-MAX_PACKET_BYTES.true, refl)

pub returns-in_err-in_data-clause-reply : goal.returns-in_err-in_data-clause-reply
returns-in_err-in_data-clause-reply c =
    let a = c.args in
    let s = rw c.data_bits.ensures.0 at c.in_err-in_data.ensures.past in (
      handed_on c.from_residual-in_err-in_data.result c.in_err-in_data.field-0.0 c.from_residual-in_err-in_data.ensures.1 a.at.now a.reader.now _
          ∙ rw s.1 (five a.packet.now a.packet_id a.at.now.0 a.reader.now _ c.in_ok-sound.ensures.there c.if-size-gt-MAX_PACKET_BYTES.false s.0),
      refl,
    )

pub read-requires : goal.read-requires
read-requires c =
    let a = c.args in
    let r = a.reader.now in
    let m = columns_memory a.columns.now in
    (state r.max_channels r.live_sequences r.live_partials m c.in_ok-sound.ensures.there, c.if-size-gt-MAX_PACKET_BYTES.false, rw c.data_bits.ensures.0 at c.in_ok-in_data.ensures.there)

pub returns-clause-reply : goal.returns-clause-reply
returns-clause-reply c =
    let a = c.args in
    let is = c.to_word.ensures ∙ ap (of_z w32) (to_z-of_z w32 a.packet_id c.ranges.packet_id) in (
      rw is at c.read.ensures.reply.0
          ∙ answered a.packet.now a.packet_id a.at.now.0 a.reader.now _ c.in_ok-sound.ensures.there c.if-size-gt-MAX_PACKET_BYTES.false (rw c.data_bits.ensures.0 at c.in_ok-in_data.ensures.there),
      c.read.ensures.reply.1,
    )
