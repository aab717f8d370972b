-- The words of what the stream's walk answers, and what it left in the lists.
use mathlib.Core.Path.{refl}
use borrow.Author.Rules.{rules}
use Rattle.exports_field.specs.Streams.{unlisted, listed_by}
use Rattle.exports_field.proofs.Told.{listed, none_listed}
use Rattle.exports_field.proofs.records.gritwheel_list_records.Goals.{in-0, in-1, in-2}
use Rattle.exports_field.proofs.records.gritwheel_list_records.Goals as goal

pub returns-in_default : goal.returns-in_default
unfolding unlisted
returns-in_default c =
    rw (none_listed c.args.stream c.args.function_count (search rules), c.unlisted.ensures, c.window_at-w.ensures) (refl, refl, refl)

pub returns : goal.returns
unfolding listed_by
returns c =
    listed c.match-stream.walk c.match-stream.w (elim c.match-stream.branch [
      | in-0 w ↦ rw (w.walk-is, w.w-is, w.records-is, w.numbers-is, w.in-0.is) (rw c.window_at-w.ensures at w.parse_rep_layout-walk.ensures)
      | in-1 w ↦ rw (w.walk-is, w.w-is, w.records-is, w.numbers-is, w.in-1.is) (rw c.window_at-w.ensures at w.parse_rep_layout_content_block-walk.ensures)
      | in-2 w ↦ rw (w.walk-is, w.w-is, w.records-is, w.numbers-is, w.in-2.is) (rw c.window_at-w.ensures at w.parse_class_net_cache-walk.ensures)
    ]) c.of_walk.ensures
