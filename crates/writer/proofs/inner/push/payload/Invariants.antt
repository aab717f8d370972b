use mathlib.Core.Path.{◌≡◌}
use Prim.Native.Nat.{◌-◌, ◌≤◌}
use lib.ListN.{length}
use Rattle.writer_spelling.specs.Bits.{bits_from, put_bits}
use Rattle.writer.proofs.inner.push.payload.Given as goal

abbrev pub invariant-loop-done : goal.invariant-loop-done
invariant-loop-done l =
    (l.done ≤ l.count) × (length l.packet ≡ length l.initial.packet) × (l.packet ≡ put_bits l.initial.packet l.at (bits_from l.payload 0 l.done))

abbrev pub decreases-loop-done : goal.decreases-loop-done
decreases-loop-done l = l.count - l.done
