use Rattle.std.proofs.Common.{◌≡◌, length}
use Rattle.bench_bitio.specs.Sums.{copies_made}
use Rattle.bench_bitio.proofs.Rows.{Copying}
use Rattle.bench_bitio.proofs.timing_copy.Given as goal

abbrev pub invariant-loop-count : goal.invariant-loop-count
invariant-loop-count l =
    Copying l.counts l.bytes (copies_made l.counts l.initial.target l.bytes l.initial.w) l.count-index l.target l.w × (l.made ≡ l.count-index) × (length l.target ≡ length l.initial.target)
