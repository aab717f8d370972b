-- Where no byte is shown nothing is displaced.
use mathlib.Core.Path.{refl}
use Rattle.bunch_joining.proofs.Joining.{none_displaced}
use Rattle.bunch_joining.proofs.inner.adding.displaced_at.Goals as goal

pub returns-then-e : goal.returns-then-e
returns-then-e c = λ bytes payload. rw c.words_of.ensures at (c.displaced.ensures bytes payload)

pub returns : goal.returns
returns c = λ bytes payload. rw (none_displaced c.args.met _ (record { header = c.args.header; bits = c.args.bits; payload = payload }) (rw c.requires.0 at c.if-e.false)) refl
