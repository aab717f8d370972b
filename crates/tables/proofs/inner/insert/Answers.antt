-- What stood from the place on is copied one place up, as Edits' `inserts` has it.
use Rattle.tables.proofs.Edits.{inserts}
use Rattle.tables.proofs.inner.insert.Goals as goal

pub returns : goal.returns
returns g c =
    let a = c.args in
    rw c.copy_within.ensures.after (inserts a.at a.live a.x a.column.now c.requires.0 c.requires.1)
