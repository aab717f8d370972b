-- The ignored bit, the walk, and what is left after its end.
use mathlib.Core.Path.{ap, sym, ◌∙◌}
use Rattle.field_walking.specs.Records.{look}
use Rattle.field.specs.Walks.{settle}
use Rattle.field.proofs.Opens.{past_bit, layout_refused, layout_opened}
use Rattle.field.proofs.walks.rep_layout.Goals as goal

pub returns-in-Err : goal.returns-in-Err
returns-in-Err c =
    let a = c.args in
    rw (c.refused.ensures, c.into.ensures) (layout_refused a.bytes.now a.w.now a.retain a.records.now (sym c.in-Err.ensures))

pub walk-walk-requires : goal.walk-walk-requires
walk-walk-requires c = past_bit c.args.bytes.now c.args.w.now (sym c.in_default.ensures)

pub returns : goal.returns
unfolding look
returns c =
    let a = c.args in
    rw (c.settle.ensures.0, c.settle.ensures.1)
    (ap (settle a.retain) c.walk-walk.ensures ∙ layout_opened a.bytes.now a.w.now a.retain a.records.now (sym c.in_default.ensures))
