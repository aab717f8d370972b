use mathlib.Core.Path.{◌≡◌}
use lib.ListN.{length, take}
use Rattle.bunch_held.specs.Memory.{held_memory, size_all, state_of}
use Rattle.bunch.proofs.Listing.{Lists}
use Rattle.bunch.proofs.inner.list_all.Given as goal

abbrev pub invariant-loop-i : goal.invariant-loop-i
invariant-loop-i l =
    (l.start ≡ size_all (take l.i l.places)) × (length l.output ≡ length l.initial.output) × (length l.list ≡ length l.initial.list)
    × Lists (state_of l.live (held_memory l.channels l.places l.arena)) l.i l.initial.output l.initial.list l.output l.list l.at l.n
