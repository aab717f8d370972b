use Rattle.std.proofs.Common.{◌≡◌, ℕ, ◌-◌, List, [], length, get_or}
use Rattle.bunch_settling.specs.Settling.{Using, SameSlices, settled_memory}
use Rattle.bench_bunch.specs.Chains.{Run, run, turn, turns, timed_payload, chains}
use Rattle.bench_bunch.proofs.inner.timing_chains.Given as goal

abbrev pub going : List ℕ → List (List ℕ) → ℕ → Run → Run
going payloads headers k = turn (timed_payload payloads k) (get_or headers k [])

abbrev pub invariant-loop-k : goal.invariant-loop-k
invariant-loop-k l =
    (turns (going l.payloads l.headers) (length l.headers - l.k) l.k (run l.s.accumulator (settled_memory l.s) l.output l.sum) ≡ chains l.payloads l.headers (run l.initial.s.accumulator (settled_memory l.initial.s) l.initial.output l.initial.sum))
    × (Using l.s.accumulator (settled_memory l.s) l.s.used × (SameSlices l.initial.s l.s × (length l.output ≡ length l.initial.output)))
