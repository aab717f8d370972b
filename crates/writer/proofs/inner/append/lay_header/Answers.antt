-- Two pieces, the second on the packet as the first left it, or both in one.
use mathlib.Core.Path.{◌∙◌}
use native.Mathlib.Omega.{arith}
use Rattle.writer.proofs.Appending.{both_count, put_both}
use Rattle.writer.proofs.inner.append.lay_header.Goals as goal

pub returns-then-front-back-gt56 : goal.returns-then-front-back-gt56
returns-then-front-back-gt56 c = rw (← c.push.ensures) c.push-then-front-back-gt56.ensures

pub push-requires-2 : goal.push-requires-2
push-requires-2 c =
    let a = c.args in
    let n = both_count a.front a.back c.add.ensures in
    (c.add.ensures.whole, omega (arith, n, c.requires.0.some), omega (arith, n), omega (arith, n))

pub returns : goal.returns
returns c =
    let a = c.args in
    c.push-2.ensures ∙ put_both a.front a.back c.add.ensures a.packet.now a.at
