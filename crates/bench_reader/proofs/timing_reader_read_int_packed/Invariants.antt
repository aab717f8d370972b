use Rattle.bitio_window.specs.Numbers.{read_packed}
use Rattle.bench_bitio.specs.Sums.{packed_sum}
use Rattle.bench_bitio.proofs.Rows.{Summing}
use Rattle.bench_reader.proofs.timing_reader_read_int_packed.Given as goal

abbrev pub invariant-loop-k : goal.invariant-loop-k
invariant-loop-k l = Summing (λ v. v) (λ i. read_packed) l.n l.bytes (packed_sum l.n l.bytes l.initial.w) l._k l.sum l.w
