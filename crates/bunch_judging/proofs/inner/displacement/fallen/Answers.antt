-- What the fragment joins, its header after the test and the cause are those of the definition.
use Rattle.bunch_judging.proofs.inner.displacement.fallen.Goals as goal

pub returns : goal.returns
returns c bytes payload =
    let words = c.args.words in
    rw (
      ← (c.after_test-h.ensures words bytes),
      ← c.unwrap_or-kind.ensures,
      ← (c.joined_by-joins.ensures.0 words bytes),
    )
    (c.joined.ensures bytes payload)
