-- Before byte k of the number, as Packed's `Turn` has it.
use mathlib.Core.Path.{◌≡◌}
use Prim.Native.Nat.{◌≤◌, ◌-◌, ◌*◌, ◌/◌, ◌^◌}
use Rattle.bitio_window.specs.Parse.{advanced}
use Rattle.bitio_window.proofs.Packed.{Turn}
use Rattle.bitio_window.proofs.inner.numbers.packed.Given as goal

abbrev pub invariant-loop-k : goal.invariant-loop-k
invariant-loop-k l =
    record {
      at : l.w ≡ advanced l.fn.w (8 * l.k);
      there : 8 * l.k ≤ l.fn.w.length - l.fn.w.position.0;
      rest : l.rest ≡ l.initial.rest / 2 ^ (8 * l.k);
      turn : Turn l.bytes l.fn.w l.k l.value l.scale;
    }
