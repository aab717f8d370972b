-- What is out of the buffer is out of the line.
use Rattle.std.proofs.Common.{length, take, zero-add, ◌∙◌, subst, arith}
use Rattle.std.specs.Io.KnownBytes.{Appends}
use Rattle.listing.specs.Calls.{bytes_out}
use Rattle.listing.specs.Outcomes.{outcome_line}
use Rattle.listing.proofs.Known.{put_starts}
use Rattle.listing.proofs.inner.said.say.Goals as goal

pub returns-clause-out : goal.returns-clause-out
returns-clause-out g c =
    let p = c.outcome_line-end.ensures in
    let r = c.flush.result in
    let text = outcome_line c.args.outcome in
    let before = g.W.Write.contents c.args.sink.now in
    let after = g.W.Write.contents c.flush.new.sink in
    let out = subst (λ t. Appends before after t) (put_starts p (omega (arith, p.within)) (bytes_out c.outcome_line-end.result r) c.flush.ensures.within) c.flush.ensures.out in
    subst (λ n. Appends before after (take (bytes_out n r) text)) (p.ends ∙ zero-add (length text)) out
