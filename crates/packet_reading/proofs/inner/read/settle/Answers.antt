-- What the tracker left is Turning's; where the close retires, both retirings follow it.
use mathlib.Core.Path.{refl, sym, ◌∙◌}
use Rattle.packet_tracking.proofs.Tracking.{lives, roomy}
use Rattle.packet_reading.specs.Memory.{reader_of}
use Rattle.packet_reading.proofs.Turning.{tracked_fits, tracked_sizes, left_open, closed}
use Rattle.packet_reading.proofs.inner.read.settle.Goals as goal

pub track-k-requires : goal.track-k-requires
track-k-requires c = let p = c.requires.0 in (p.partials, p.partial_sequences, p.partial_reliables)

pub retire_sequence-requires : goal.retire_sequence-requires
retire_sequence-requires c = let p = c.requires.0 in (lives p.sequences, roomy p.sequences p.numbers)

pub retire_partial-requires : goal.retire_partial-requires
retire_partial-requires c =
    let a = c.args in
    let p = c.requires.0 in
    let k = c.track-k in
    let fits = tracked_fits p a.f a.id a.at.now.0 a.n.sequence a.n.limited k.result _ _ _ _ k.ensures in
    let sizes = tracked_sizes p a.f a.id a.at.now.0 a.n.sequence a.n.limited k.result _ _ _ _ k.ensures in
    (lives fits, roomy fits (rw sizes.0 p.partial_sequences), roomy fits (rw sizes.1 p.partial_reliables))

pub returns-then-retires-clause-reply : goal.returns-then-retires-clause-reply
returns-then-retires-clause-reply c =
    let a = c.args in
    let p = c.requires.0 in
    let k = c.track-k in (
      c.handed_out.ensures (reader_of a.reader.now.max_channels _ _) _
          ∙ closed p a.f a.id a.at.now.0 a.n.sequence a.n.limited k.result _ _ _ _ k.ensures (sym c.retires.ensures ∙ c.if-retires.true) _ _ _ _ _ _ _ c.retire_sequence.ensures c.retire_partial.ensures,
      refl,
    )

pub returns-clause-reply : goal.returns-clause-reply
returns-clause-reply c =
    let a = c.args in
    let p = c.requires.0 in
    let k = c.track-k in (
      c.handed_out-2.ensures (reader_of a.reader.now.max_channels _ _) _
          ∙ left_open p a.f a.id a.at.now.0 a.n.sequence a.n.limited k.result _ _ _ _ k.ensures (sym c.retires.ensures ∙ c.if-retires.false),
      refl,
    )
