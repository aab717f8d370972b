-- The slot that was found decides, and whether its message is finished.
use mathlib.Core.Path.{sym, ◌∙◌}
use native.Mathlib.Omega.{arith}
use Rattle.bunch_settling.proofs.Numbers.{spot}
use Rattle.bunch_joining.proofs.Handing.{taken_finished, taken_not, taken_nothing}
use Rattle.bunch_joining.proofs.inner.taking.take_completed.Goals as goal

pub returns-then-p-eq1-clause-gives : goal.returns-then-p-eq1-clause-gives
returns-then-p-eq1-clause-gives c =
    let a = c.args in
    rw (taken_finished _ _ _ c.requires _ _ (sym c.find.ensures ∙ c.in-Ok.is) a.output.now c.if-p-eq1.true) c.hand_out.ensures.gives

pub returns-else-p-eq1-clause-gives : goal.returns-else-p-eq1-clause-gives
returns-else-p-eq1-clause-gives c = let a = c.args in taken_not _ _ _ c.requires _ _ (sym c.find.ensures ∙ c.in-Ok.is) a.output.now c.if-p-eq1.false

pub returns-in-Err-clause-gives : goal.returns-in-Err-clause-gives
returns-in-Err-clause-gives c = let a = c.args in taken_nothing _ _ _ c.requires _ _ (sym c.find.ensures ∙ c.in-Err.is) a.output.now

pub offset_bounds-s-i : goal.offset_bounds-s-i
offset_bounds-s-i c = let f = spot _ _ _ c.requires _ _ (sym c.find.ensures ∙ c.in-Ok.is) in omega (arith, f)

pub bounds-s-i : goal.bounds-s-i
bounds-s-i c = let f = spot _ _ _ c.requires _ _ (sym c.find.ensures ∙ c.in-Ok.is) in omega (arith, f)

pub hand_out-requires : goal.hand_out-requires
hand_out-requires c = (c.requires, sym c.find.ensures ∙ c.in-Ok.is)
