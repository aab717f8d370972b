-- One load and its low bits, with the ninth byte where the load runs out: the laws of Loads.
use mathlib.Core.Path.{◌∙◌}
use native.Mathlib.Omega.{arith}
use Rattle.bitio_bits.proofs.Loads.{short_read, long_read, both_lt}
use Rattle.bitio_window.proofs.inner.words.bits_at.Goals as goal

pub returns-then-count-got : goal.returns-then-count-got
returns-then-count-got c =
    let a = c.args in (
      c.low.ensures.0
          ∙ short_read a.bytes.now (λ i. omega (arith, c.shared_slice_known-1.given i)) a.at.0 c.load_u64.ensures a.count (omega arith),
      c.low.ensures.2,
    )

pub overflow_add-word : goal.overflow_add-word
overflow_add-word c =
    let a = c.args in
    record {
      fits = both_lt a.bytes.now (λ i. omega (arith, c.shared_slice_known-2-1.given i)) a.at.0 c.load_u64.ensures c.byte-high.ensures.0;
    }

pub returns : goal.returns
returns c =
    let a = c.args in (
      c.low-2.ensures.0
          ∙ long_read a.bytes.now (λ i. omega (arith, c.shared_slice_known-2-1.given i)) a.at.0 c.load_u64.ensures c.byte-high.ensures.0 a.count
          (omega arith),
      c.low-2.ensures.2,
    )
