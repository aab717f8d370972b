-- The walk into a part of the numbers, as the walk into the whole list (proofs/Kept.antt).
use mathlib.Core.Path.{sym}
use native.Mathlib.Omega.{arith}
use lib.Seq.{length-take-le}
use Rattle.field_records.proofs.Kept.{walks_into, leaves_ready}
use Rattle.field_records.proofs.inner.walk_numbers.Goals as goal

pub slice_bounds-walk-end-2 : goal.slice_bounds-walk-end-2
slice_bounds-walk-end-2 c = sym (length-take-le c.min-n.result c.args.numbers.now (omega (arith, c.min-n.ensures)))

pub returns : goal.returns
returns c =
    let a = c.args in
    let e = c.min-n.ensures in
    let h = c.walk.ensures in (
      walks_into a.room a.numbers.now a.stream a.bytes.now a.w.now c.walk.result c.walk.new.w _ e h,
      leaves_ready a.room a.numbers.now a.stream a.bytes.now a.w.now c.walk.result c.walk.new.w _ e h,
    )
