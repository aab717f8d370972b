use Rattle.std.proofs.Common.{◌≤◌, take}
use Rattle.std.specs.Io.KnownBytes.{Appends}
use Rattle.listing.proofs.inner.output.flush.Given as goal

abbrev pub invariant-again : goal.invariant-again
invariant-again g l = (l.bytes ≤ l.used) × Appends (g.W.Write.contents l.initial.sink) (g.W.Write.contents l.sink) (take l.bytes l.out)
