-- The numbers at the slot keep the steps in range. What they show and drop is the step of a message that is handed out.
use native.Mathlib.Omega.{arith}
use Rattle.bunch_held.proofs.Holding.{start_asks}
use Rattle.bunch_settling.proofs.Numbers.{spot}
use Rattle.bunch_joining.proofs.Handing.{gives_short, gives_message}
use Rattle.bunch_joining.proofs.inner.taking.hand_out.Goals as goal

pub returns-then-output-n-clause-gives : goal.returns-then-output-n-clause-gives
returns-then-output-n-clause-gives c =
    let a = c.args in
    let q = c.requires in
    gives_short _ _ _ q.0 _ _ q.1 _ a.output.now c.bytes_of-n.ensures c.if-output-n.true

pub returns-clause-gives : goal.returns-clause-gives
returns-clause-gives c =
    let a = c.args in
    let q = c.requires in
    let n = c.bytes_of-n.ensures in
    rw c.header_in-header.ensures
    (gives_message _ _ _ q.0 _ _ q.1 a.output.now (omega (arith, n, c.if-output-n.false)) (rw (n, c.start_of-start.ensures) at c.copy_out.ensures) c.drop_message.ensures.lays)

pub offset_bounds-s-i : goal.offset_bounds-s-i
offset_bounds-s-i c = let q = c.requires in let f = spot _ _ _ q.0 _ _ q.1 in omega (arith, f)

pub bounds-s-i : goal.bounds-s-i
bounds-s-i c = let q = c.requires in let f = spot _ _ _ q.0 _ _ q.1 in omega (arith, f)

pub bytes_of-n-requires : goal.bytes_of-n-requires
bytes_of-n-requires c = let q = c.requires in let f = spot _ _ _ q.0 _ _ q.1 in omega (arith, f)

pub start_of-start-requires : goal.start_of-start-requires
start_of-start-requires c = let q = c.requires in let f = spot _ _ _ q.0 _ _ q.1 in start_asks _ _ q.0.stands _ (omega (arith, f.live))

pub copy_out-requires : goal.copy_out-requires
copy_out-requires c = let q = c.requires in let f = spot _ _ _ q.0 _ _ q.1 in (omega (arith, f, c.start_of-start.ensures, c.bytes_of-n.ensures), omega (arith, c.if-output-n.false))

pub drop_message-requires : goal.drop_message-requires
drop_message-requires c = let q = c.requires in record { sound = q.0; slot = q.1; start_is = c.start_of-start.ensures }
