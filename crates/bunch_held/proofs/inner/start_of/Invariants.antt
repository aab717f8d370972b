use mathlib.Core.Path.{◌≡◌}
use lib.ListN.{take}
use Rattle.bunch_held.specs.Memory.{size_all}
use Rattle.bunch_held.proofs.inner.start_of.Given as goal

abbrev pub invariant-loop-p : goal.invariant-loop-p
invariant-loop-p l = l.start ≡ size_all (take l.p-index l.p-items)
