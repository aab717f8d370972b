use Rattle.listing.proofs.Ending.{Copied}
use Rattle.listing.proofs.inner.said.word.Given as goal

abbrev pub invariant-loop-i : goal.invariant-loop-i
invariant-loop-i l = Copied l.initial.out l.text l.i l.out
