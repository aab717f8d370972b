-- After each step the packet has the payload's first `done` bits.
use mathlib.Core.Path.{◌≡◌, refl, ap, ◌∙◌}
use Prim.Native.Nat.{ℕ}
use native.Mathlib.Omega.{arith}
use Rattle.writer_spelling.specs.Bits.{bits_from, put_bits}
use Rattle.writer.proofs.Pushing.{put_more}
use Rattle.writer.proofs.inner.push.payload.Goals as goal

pub loop-done-init : goal.loop-done-init
unfolding put_bits bits_from
loop-done-init c = (omega arith, refl, refl)

pub loop-done-preserved : goal.loop-done-preserved
loop-done-preserved c =
    let a = c.args in
    let l = c.loop-done in
    let s = c.step-done in (
      omega arith,
      omega arith,
      put_more a.packet.now a.payload.now a.at l.done s.result l.invariant.2 s.ensures.leaves,
    )

pub returns : goal.returns
returns c =
    let a = c.args in
    let l = c.loop-done in
    let e : l.done ≡ a.count = omega arith in
    l.invariant.2 ∙ ap (λ (n : ℕ). put_bits a.packet.now a.at (bits_from a.payload.now 0 n)) e
