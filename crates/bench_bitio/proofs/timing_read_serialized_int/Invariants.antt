use Rattle.std.proofs.Common.{length, get_or}
use Rattle.bitio_window.specs.Numbers.{read_serialized}
use Rattle.bench_bitio.specs.Sums.{serialized_sum}
use Rattle.bench_bitio.proofs.Rows.{Summing}
use Rattle.bench_bitio.proofs.timing_read_serialized_int.Given as goal

abbrev pub invariant-loop-max : goal.invariant-loop-max
invariant-loop-max l = Summing (λ v. v) (λ i. read_serialized (get_or l.maxima i 0)) (length l.maxima) l.bytes (serialized_sum l.maxima l.bytes l.initial.w) l.max-index l.sum l.w
