-- After i turns the first i places are written.
use Rattle.std.proofs.Common.{◌≡◌}
use Rattle.field_records.specs.Records.{filled}
use Rattle.field_records.proofs.inner.fill.Given as goal

abbrev pub invariant-loop-i : goal.invariant-loop-i
invariant-loop-i l = l.records ≡ filled l.i l.numbers l.fn.records
