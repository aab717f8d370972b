-- A fragment is tracked by `track_fragment`; any other bunch leaves the columns as they are.
use Rattle.packet_tracking.specs.Partials.{tracking}
use Rattle.packet_tracking.proofs.Tracking.{lives, roomy}
use Rattle.packet_tracking.proofs.Effects.{same_laid, laid_in}
use Rattle.packet_tracking.proofs.inner.partials.track.Goals as goal

pub returns-then-f-limited : goal.returns-then-f-limited
unfolding tracking
returns-then-f-limited c = rw c.if-f-limited.true c.track_fragment.ensures

pub returns : goal.returns
unfolding tracking
returns c =
    let a = c.args in
    let p = c.requires in
    rw c.if-f-limited.false
    (laid_in _ _ (same_laid a.f.ch_index 0 a.channels.now a.sequences.now a.reliables.now (lives p.0) (roomy p.0 p.1) (roomy p.0 p.2)))
