-- `Near` at each turn, as if the live places ended at the place looked at.
use mathlib.Core.Path.{◌≡◌, ◌∙◌}
use Prim.Native.Nat.{suc, ◌+◌, ◌-◌}
use native.Mathlib.Omega.{arith}
use lib.ListN.{length, get_or, take, drop}
use lib.Seq.{get_or-take, get_or-drop}
use Rattle.tables.proofs.Searches.{counted, passed, none_counted, all_counted}
use Rattle.tables.proofs.inner.count.Goals as goal
use Rattle.tables.proofs.inner.count.Goals.{then-one-channel, else-one-channel}

pub loop-one-init : goal.loop-one-init
loop-one-init c =
    let a = c.args in
    (omega arith, none_counted a.held.now (length a.held.now) a.channel a.from a.n c.requires.3 (a.from + 0) (omega arith))

pub loop-one-preserved : goal.loop-one-preserved
loop-one-preserved c =
    let l = c.loop-one in
    let a = c.args in
    let m = a.from + l.one-index in
    let s = a.from + c.if-one-channel.k in
    let next : a.from + (l.one-index + 1) ≡ suc m = omega arith in
    let here : get_or (take (a.from + a.n - a.from) (drop a.from a.held.now)) l.one-index 0 ≡ get_or a.held.now m 0 =
    get_or-take (a.from + a.n - a.from) (drop a.from a.held.now) l.one-index 0 (omega arith) ∙ get_or-drop a.from a.held.now l.one-index 0 in
    elim c.if-one-channel.branch [
      | then-one-channel w ↦ (
        omega arith,
        counted a.held.now a.channel (a.from + l.k) m (a.from + (l.one-index + 1)) l.invariant.1 next s c.requires.0 (omega arith) (omega arith) (rw here at w.if-one-channel.true),
      )
      | else-one-channel w ↦
          let same : a.from + l.k ≡ s = omega arith in
          (omega arith, rw (← same) (passed a.held.now a.channel (a.from + l.k) m (a.from + (l.one-index + 1)) l.invariant.1 next (rw here at w.if-one-channel.false)))
    ]

pub returns : goal.returns
returns c =
    let l = c.loop-one in
    let a = c.args in
    let size : length (take (a.from + a.n - a.from) (drop a.from a.held.now)) ≡ a.n = omega arith in
    all_counted a.held.now (length a.held.now) a.channel a.from a.n c.requires.3 (a.from + l.one-index) (a.from + l.k) (omega arith) (omega arith) l.invariant.1
