-- A record's two bytes of length.
use Rattle.std.proofs.Common.{ap, ◌∙◌, arith}
use Rattle.listing.specs.Input.{whole_at}
use Rattle.listing.proofs.Going.{short_packet}
use Rattle.listing.proofs.inner.run.record_at.Goals as goal

pub returns : goal.returns
returns c =
    let e = c.unwrap_or.ensures ∙ ap whole_at c.record_at.ensures in
    (e, short_packet c.args.bytes.now (λ i. grind arith) c.args.at e)
