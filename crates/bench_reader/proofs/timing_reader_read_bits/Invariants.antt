use Rattle.std.proofs.Common.{length, get_or}
use Rattle.bitio_window.specs.Reads.{read_bits}
use Rattle.bench_bitio.specs.Sums.{bits_sum}
use Rattle.bench_bitio.proofs.Rows.{Summing}
use Rattle.bench_reader.proofs.timing_reader_read_bits.Given as goal

abbrev pub invariant-loop-width : goal.invariant-loop-width
invariant-loop-width l = Summing (λ v. v) (λ i. read_bits (get_or l.widths i 0)) (length l.widths) l.bytes (bits_sum l.widths l.bytes l.initial.w) l.width-index l.sum l.w
