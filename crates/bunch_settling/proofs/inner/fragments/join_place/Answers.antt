-- Three words are others, and the rest as it was.
use Rattle.bunch_settling.proofs.Places.{three_stored}
use Rattle.bunch_settling.proofs.inner.fragments.join_place.Goals as goal

pub returns : goal.returns
returns c = three_stored c.args.places.now c.args.i _ _ _ c.requires.there c.requires.words
