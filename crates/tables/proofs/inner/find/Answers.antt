-- The channel stands where the channels below it end, or would go there.
use native.Mathlib.Omega.{arith}
use lib.ListN.{take}
use lib.Seq.{length-take-le}
use Rattle.tables.proofs.Ascending.{rising}
use Rattle.tables.proofs.Searches.{ends_at, ends_free}
use Rattle.tables.proofs.inner.find.Goals as goal
use Rattle.tables.proofs.inner.find.Goals.{else-i-held-via-then-i-held+else-held-i, else-i-held-via-else-i-held}

pub below-i-requires : goal.below-i-requires
below-i-requires c =
    let a = c.args in
    rising (take a.live a.channels.now) (omega (arith, length-take-le a.live a.channels.now c.requires.0)) c.requires.2

pub returns-then-held-i : goal.returns-then-held-i
returns-then-held-i c =
    let a = c.args in
    let b = c.below-i in
    ends_at (take a.live a.channels.now) a.channel b.result b.ensures c.if-i-held.true c.if-held-i.true

pub returns-else-i-held : goal.returns-else-i-held
returns-else-i-held c =
    let a = c.args in
    let b = c.below-i in
    ends_free (take a.live a.channels.now) a.channel b.result b.ensures (elim c.else-i-held.branch [
      | else-i-held-via-then-i-held+else-held-i w ↦ λ h. w.if-held-i.false
      | else-i-held-via-else-i-held w ↦ λ h e. omega (arith, w.if-i-held.false)
    ])
