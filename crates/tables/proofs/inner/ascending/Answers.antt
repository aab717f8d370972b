-- The first i channels have been passed.
use mathlib.Core.Path.{◌∙◌}
use Prim.Native.Nat.{◌-◌}
use native.Mathlib.Omega.{arith}
use Rattle.tables.proofs.Ascending.{begins, turn, ends}
use Rattle.tables.proofs.inner.ascending.Goals as goal

pub loop-i-init : goal.loop-i-init
loop-i-init c = (omega arith, begins c.args.channels.now)

pub loop-i-preserved : goal.loop-i-preserved
loop-i-preserved c =
    let l = c.loop-i in
    let a = c.args in
    (omega arith, rw l.invariant.1 (turn (l.i - 1) l.i a.channels.now (omega (arith, l.auto.i)) (omega arith)))

pub returns : goal.returns
returns c =
    let l = c.loop-i in
    let a = c.args in
    l.invariant.1 ∙ ends l.i a.live a.channels.now l.auto.i l.invariant.0 (omega arith) l.auto.i-end
