-- One load, with the ninth byte where bit `at` is not its first: the laws of Loads.
use native.Mathlib.Omega.{arith}
use Rattle.bitio_bits.proofs.Loads.{whole_load, whole_word, both_lt}
use Rattle.bitio_window.proofs.inner.words.word_at.Goals as goal

pub returns-then-off-eq0 : goal.returns-then-off-eq0
returns-then-off-eq0 c = whole_load c.args.bytes.now (λ i. omega (arith, c.shared_slice_known-1.given i)) c.args.at.0 c.eight.ensures c.if-off-eq0.true

pub overflow_add-result : goal.overflow_add-result
overflow_add-result c =
    record {
      fits = both_lt c.args.bytes.now (λ i. omega (arith, c.shared_slice_known-2-1.given i)) c.args.at.0 c.eight.ensures c.byte.ensures.0;
    }

pub returns : goal.returns
returns c = whole_word c.args.bytes.now (λ i. omega (arith, c.shared_slice_known-2-1.given i)) c.args.at.0 c.eight.ensures c.byte.ensures.0
