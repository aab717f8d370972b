-- The slot that was found decides.
use mathlib.Core.Path.{sym, ◌∙◌}
use Rattle.bunch_joining.proofs.Handing.{retired_nothing}
use Rattle.bunch_joining.proofs.inner.taking.retire_channel.Goals as goal

pub hand_out-requires : goal.hand_out-requires
hand_out-requires c = (c.requires, sym c.find.ensures ∙ c.in-Ok.is)

pub returns-in-Err-clause-gives : goal.returns-in-Err-clause-gives
returns-in-Err-clause-gives c = let a = c.args in retired_nothing _ _ _ c.requires _ _ (sym c.find.ensures ∙ c.in-Err.is) a.output.now

pub returns-in-Ok-clause-gives : goal.returns-in-Ok-clause-gives
returns-in-Ok-clause-gives c = c.hand_out.ensures.gives
