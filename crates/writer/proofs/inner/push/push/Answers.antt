-- The byte's low bits and the word above them, stored, are the bits put one after the other: the laws of Pushing.
use Prim.Native.Nat.{◌/◌}
use mathlib.Core.Path.{ap, ◌∙◌}
use native.Mathlib.Omega.{arith}
use Rattle.bitio_bits.specs.Words.{stored}
use Rattle.writer.proofs.Pushing.{word_fits, pushed}
use Rattle.writer.proofs.inner.push.push.Goals as goal

pub overflow_add-kept : goal.overflow_add-kept
overflow_add-kept c =
    let a = c.args in
    record {
      fits = word_fits a.packet.now a.at a.bits.count a.bits.word c.requires.0.within c.requires.2 c.low_by_shift-kept.ensures.0;
    }

pub returns : goal.returns
returns c =
    let a = c.args in
    c.store.ensures
    ∙ ap (stored a.packet.now (a.at / 8) _) (omega arith)
    ∙ pushed a.packet.now a.at a.bits.count a.bits.word c.requires.0.within c.requires.2 c.low_by_shift-kept.ensures.0
    c.requires.1 c.requires.3
