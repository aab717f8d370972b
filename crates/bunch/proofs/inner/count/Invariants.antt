use mathlib.Core.Path.{◌≡◌}
use lib.ListN.{take}
use Rattle.bunch_held.specs.Memory.{sum_of}
use Rattle.bunch.specs.Shown.{shown_count, shown_size}
use Rattle.bunch.proofs.inner.count.Given as goal

abbrev pub invariant-loop-p : goal.invariant-loop-p
invariant-loop-p l = (l.messages ≡ sum_of shown_count (take l.p-index l.p-items)) × (l.bytes ≡ sum_of shown_size (take l.p-index l.p-items))
