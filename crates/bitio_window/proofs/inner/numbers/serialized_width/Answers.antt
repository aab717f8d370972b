-- The definition, with the value and the test as the code makes them.
use mathlib.Core.Path.{refl}
use Prim.Native.Nat.{◌+◌, ◌%◌, ◌^◌}
use native.Mathlib.Omega.{arith}
use Rattle.bitio_window.specs.Numbers.{log2}
use Rattle.bitio_window.specs.Widths.{serialized_width}
use Rattle.bitio_window.proofs.Widths.{follows}
use Rattle.bitio_window.proofs.inner.numbers.serialized_width.Goals as goal

pub is_whole-whole-requires : goal.is_whole-whole-requires
is_whole-whole-requires c =
    let p = c.power.ensures in
    (rw p.0 c.low.ensures.2, rw p.0 c.floor_log2-width.ensures.2)

pub returns : goal.returns
unfolding serialized_width
returns c =
    let a = c.args in
    (rw (c.only_if.ensures.0, c.is_whole-whole.ensures, c.power.ensures.0, c.low.ensures.0, c.floor_log2-width.ensures.0, follows a.max (a.word % 2 ^ log2 a.max + 2 ^ log2 a.max)) refl, omega arith)
