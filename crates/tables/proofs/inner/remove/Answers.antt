-- What stood after the place is copied one place down, as Edits' `removes` has it.
use Rattle.tables.proofs.Edits.{removes}
use Rattle.tables.proofs.inner.remove.Goals as goal

pub returns : goal.returns
returns g c =
    let a = c.args in
    rw c.copy_within.ensures.after (removes a.at a.live a.column.now c.requires.0 c.requires.1)
