-- Eight bytes stored at a byte's start, or a word's low bits pushed: the laws of Pushing.
use mathlib.Core.Path.{ap, ◌∙◌}
use Prim.Native.Nat.{◌-◌, ◌%◌}
use native.Mathlib.Omega.{arith}
use Rattle.writer_spelling.specs.Bits.{put_bits}
use Rattle.writer.proofs.Pushing.{word_pushed, peeked_bits, word_bits}
use Rattle.writer.proofs.inner.push.step.Goals as goal

pub returns-then-off-eq0 : goal.returns-then-off-eq0
returns-then-off-eq0 c =
    let a = c.args in record {
      reached = (omega arith, omega arith);
      leaves = c.store.ensures
          ∙ word_pushed a.packet.now a.payload.now a.at a.from c.word_at-eight.ensures (omega arith) (omega arith);
    }

pub returns-then-left-ge64 : goal.returns-then-left-ge64
returns-then-left-ge64 c =
    let a = c.args in record {
      reached = (omega arith, omega arith);
      leaves = c.push.ensures
          ∙ ap (put_bits a.packet.now a.at)
          (word_bits a.payload.now a.from (64 - a.at % 8) c.word_at-eight.ensures (omega arith)
          c.low_by_shift-word.ensures.0);
    }

pub returns : goal.returns
returns c =
    let a = c.args in
    let n = c.min-count in record {
      reached = (omega arith, omega arith);
      leaves = c.push-2.ensures
          ∙ ap (put_bits a.packet.now a.at)
          (peeked_bits a.payload.now a.from n.result c.peek.ensures (omega arith)
          c.low_by_shift-word-2.ensures.0);
    }
