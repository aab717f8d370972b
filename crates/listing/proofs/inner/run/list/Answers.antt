-- A version byte of ours shows that a byte is there.
use Rattle.std.proofs.Common.{sym, ◌∙◌}
use Rattle.listing.proofs.Going.{has_a_byte}
use Rattle.listing.proofs.inner.run.list.Goals as goal

pub records-listed-requires : goal.records-listed-requires
records-listed-requires g c =
    let r = c.refill-refilled in
    let p = c.requires in
    (r.ensures.part.0, has_a_byte r.new.buffer r.result.part.held (sym c.version-version.ensures ∙ c.in-Ok.is), p.0, p.1)
