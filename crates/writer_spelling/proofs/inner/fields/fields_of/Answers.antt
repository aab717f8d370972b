-- The reason's number is its raw number; the other fields are the header's.
use mathlib.Core.Path.{refl}
use Rattle.writer_spelling.specs.Header.{fields_of}
use Rattle.writer_spelling.proofs.inner.fields.fields_of.Goals as goal

pub returns : goal.returns
unfolding fields_of
returns c = (rw c.to_raw.ensures.0 refl, c.to_raw.ensures.1, refl)
