-- The numbers at the slot keep the steps in range; what they come to is There's.
use mathlib.Core.Path.{refl}
use mathlib.Core.List.{[]}
use native.Mathlib.Omega.{arith}
use lib.ListN.{get_or, drop}
use Rattle.bunch_judging.specs.Held.{Fragment}
use Rattle.bunch_judging.specs.Messages.{displaced}
use Rattle.bunch_judging.specs.Standings.{held_of}
use Rattle.bunch_settling.specs.Settling.{settled_memory}
use Rattle.bunch_held.proofs.Holding.{start_asks}
use Rattle.bunch_settling.proofs.Numbers.{spot}
use Rattle.bunch_joining.proofs.Joining.{tells}
use Rattle.bunch_joining.proofs.There.{few_shown, gives_short, holds, gives_judged}
use Rattle.bunch_joining.proofs.inner.adding.add_held.Goals as goal

pub bytes_of-requires : goal.bytes_of-requires
bytes_of-requires c =
    let a = c.args in
    let q = c.requires in
    let m = settled_memory a.s.now in
    let f : Fragment = record { header = a.header; bits = a.bits; payload = a.payload.now } in
    omega (arith, (few_shown a.s.now.accumulator m a.s.now.used q.0 a.ch_index a.i q.1 f q.2 q.3 a.met q.4 a.w a.answered q.5).0, q.2)

pub overflow_add-needed : goal.overflow_add-needed
overflow_add-needed c =
    let a = c.args in
    let q = c.requires in
    let m = settled_memory a.s.now in
    let f : Fragment = record { header = a.header; bits = a.bits; payload = a.payload.now } in
    let few = few_shown a.s.now.accumulator m a.s.now.used q.0 a.ch_index a.i q.1 f q.2 q.3 a.met q.4 a.w a.answered q.5 in
    let g = spot a.s.now.accumulator m a.s.now.used q.0 a.ch_index a.i q.1 in
    omega (arith, few.0, few.1, q.2, g, c.bytes_of.ensures)

pub returns-then-output-needed-clause-gives : goal.returns-then-output-needed-clause-gives
returns-then-output-needed-clause-gives c =
    let a = c.args in
    let q = c.requires in
    let m = settled_memory a.s.now in
    let f : Fragment = record { header = a.header; bits = a.bits; payload = a.payload.now } in
    gives_short a.s.now.accumulator m a.s.now.used q.0 a.ch_index a.i q.1 f q.2 q.3 a.met q.4 a.w a.answered q.5 a.output.now _ (rw c.bytes_of.ensures refl) c.if-output-needed.true

pub displaced_at-gone-requires : goal.displaced_at-gone-requires
displaced_at-gone-requires c =
    let q = c.requires in
    let g = spot _ _ _ q.0 _ _ q.1 in
    (q.5.effect_is, omega (arith, g), omega (arith, g, q.4.bits_are), q.2)

pub show-requires : goal.show-requires
show-requires c =
    let a = c.args in
    let q = c.requires in
    let m = settled_memory a.s.now in
    let f : Fragment = record { header = a.header; bits = a.bits; payload = a.payload.now } in
    let few = few_shown a.s.now.accumulator m a.s.now.used q.0 a.ch_index a.i q.1 f q.2 q.3 a.met q.4 a.w a.answered q.5 in
    let g = spot a.s.now.accumulator m a.s.now.used q.0 a.ch_index a.i q.1 in
    (omega (arith, few.1, g, c.start_of-start.ensures), omega (arith, few.0, q.3), omega (arith, c.if-output-needed.false, c.bytes_of.ensures))

pub settle_held-requires : goal.settle_held-requires
settle_held-requires c =
    let a = c.args in
    let q = c.requires in
    let m = settled_memory a.s.now in
    let f : Fragment = record { header = a.header; bits = a.bits; payload = a.payload.now } in
    holds a.s.now.accumulator m a.s.now.used q.0 a.ch_index a.i q.1 f q.2 q.3 a.met q.4 a.w a.answered q.5 c.after_test-h.result c.after_test-h.ensures c.sequence_of-sequence.result c.sequence_of-sequence.ensures c.start_of-start.result c.start_of-start.ensures

pub returns-clause-gives : goal.returns-clause-gives
returns-clause-gives c =
    let a = c.args in
    let q = c.requires in
    let m = settled_memory a.s.now in
    let f : Fragment = record { header = a.header; bits = a.bits; payload = a.payload.now } in
    gives_judged a.s.now.accumulator m a.s.now.used q.0 a.ch_index a.i q.1 f q.2 q.3 a.met q.4 a.w a.answered q.5 c.after_test-h.result c.after_test-h.ensures c.sequence_of-sequence.result c.sequence_of-sequence.ensures c.start_of-start.result c.start_of-start.ensures a.output.now
    (omega (arith, c.if-output-needed.false, c.bytes_of.ensures)) c.show.ensures
    (λ bytes payload. tells c.displaced_at-gone.result (displaced a.w.fate (held_of a.met.standing (drop 4 (get_or a.s.now.places.now a.i [])) bytes) (record { header = a.header; bits = a.bits; payload = payload })) (q.5.result-is (drop 4 (get_or a.s.now.places.now a.i [])) bytes payload) (c.displaced_at-gone.ensures bytes payload))
    c.settle_held.ensures.lays

pub start_of-start-requires : goal.start_of-start-requires
start_of-start-requires c = let q = c.requires in let g = spot _ _ _ q.0 _ _ q.1 in start_asks _ _ q.0.stands _ (omega (arith, g.live))
