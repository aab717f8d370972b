-- The parts are those of the definition.
use Rattle.bunch_judging.proofs.inner.results.failed.Goals as goal

pub returns : goal.returns
returns c =
    rw (
      c.is_overlapping-overlapping.ensures,
      c.erring-flagged.ensures,
      c.kind_of-refusal.ensures,
      c.limit_of-limit.ensures,
    ) at c.refused.ensures
