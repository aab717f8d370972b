-- The tests of document 01 one after the other: `==` on flags is `agree`, and on reasons it is `dormancy`.
use mathlib.Core.Bool.{Bool, true, false, beq}
use mathlib.Core.Path.{◌≡◌, refl}
use denote.Enum.Bare.{sameb}
use Rattle.types.specs.Continuing.{agree}
use Rattle.types.specs.contracts.ChannelCloseReason.{the_type}
use Rattle.types.specs.declared.ChannelCloseReason.{ChannelCloseReason}
use Rattle.writer_spelling.specs.Header.{dormancy, writable}
use Rattle.writer_spelling.proofs.inner.fields.writable.Goals as goal

equal : (a b : Bool) → beq a b ≡ agree a b
equal true true = refl
equal true false = refl
equal false true = refl
equal false false = refl

dormant : (r : ChannelCloseReason) → sameb the_type r ChannelCloseReason.Dormancy ≡ dormancy r
dormant ChannelCloseReason.Destroyed = refl
dormant ChannelCloseReason.Dormancy = refl

pub returns : goal.returns
unfolding writable
returns c = rw (equal, c.eq-dormant.ensures, dormant) refl
