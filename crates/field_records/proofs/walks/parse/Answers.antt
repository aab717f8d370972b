-- The walk of the numbers, and the records filled of them (proofs/Filled.antt).
use Rattle.field_records.proofs.Filled.{lists}
use Rattle.field_records.proofs.walks.parse.Goals as goal

pub returns : goal.returns
returns c =
    let a = c.args in
    lists a.stream a.bytes.now a.records.now a.numbers.now a.w.now c.walk_numbers-walk.result c.walk_numbers-walk.new.w c.fill.new.records c.walk_numbers-walk.new.numbers c.walk_numbers-walk.ensures.0 c.fill.ensures
