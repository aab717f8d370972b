use mir.Val.{bool_byte}
use Rattle.bitio_window.specs.Reads.{read_bit}
use Rattle.bench_bitio.specs.Sums.{bit_sum}
use Rattle.bench_bitio.proofs.Rows.{Summing}
use Rattle.bench_bitio.proofs.timing_read_bit.Given as goal

abbrev pub invariant-loop-k : goal.invariant-loop-k
invariant-loop-k l = Summing bool_byte (λ i. read_bit) l.n l.bytes (bit_sum l.n l.bytes l.initial.w) l._k l.sum l.w
