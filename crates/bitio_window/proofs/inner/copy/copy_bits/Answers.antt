-- After i bytes the target is the copy's front and its own rest, as Copied's `Front` has it.
use mathlib.Core.Path.{◌≡◌, refl, ap, ◌∙◌}
use Prim.Native.Nat.{◌+◌, ◌*◌, ◌-◌, min}
use native.Mathlib.Omega.{arith}
use Rattle.bitio_bits.specs.Bits.{bits_at}
use Rattle.bitio_window.proofs.Copied.{none, more, done}
use Rattle.bitio_window.proofs.inner.copy.copy_bits.Goals as goal

pub loop-left-init : goal.loop-left-init
loop-left-init c = let a = c.args in (omega arith, refl, none a.bytes.now a.target.now a.at.0 a.count)

pub loop-left-preserved : goal.loop-left-preserved
loop-left-preserved c =
    let a = c.args in
    let l = c.loop-left in
    let n : 64 ≡ min 64 (a.count - 8 * l.i) = omega arith in (
      omega arith,
      omega arith,
      c.store.ensures
          ∙ more a.bytes.now a.target.now a.at.0 a.count l.i 8 c.word_at-word.result l.invariant.2 (omega arith) (omega arith)
          (c.word_at-word.ensures ∙ ap (bits_at a.bytes.now (a.at.0 + 8 * l.i)) n),
    )

pub returns : goal.returns
returns c =
    let a = c.args in
    let l = c.loop-left in
    let m = c.div_ceil.result in
    let last = c.div_ceil.ensures in
    let n : l.left ≡ min (8 * m) (a.count - 8 * l.i) = omega (arith, last) in
    done a.bytes.now a.target.now a.at.0 a.count (l.i + m)
    (c.store-2.ensures
    ∙ more a.bytes.now a.target.now a.at.0 a.count l.i m c.bits_at-last.result l.invariant.2 (omega (arith, last)) (omega (arith, last))
    (c.bits_at-last.ensures.0 ∙ ap (bits_at a.bytes.now (a.at.0 + 8 * l.i)) n))
    (omega (arith, last))
