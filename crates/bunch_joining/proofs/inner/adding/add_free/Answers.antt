-- What the steps come to is Absent's.
use mathlib.Core.List.{[]}
use native.Mathlib.Omega.{arith}
use Rattle.tables.specs.Tables.{none}
use Rattle.bunch_judging.specs.Held.{Fragment}
use Rattle.bunch_judging.specs.Messages.{displaced}
use Rattle.bunch_settling.specs.Settling.{settled_memory}
use Rattle.bunch_held.proofs.Holding.{start_asks}
use Rattle.bunch_held.proofs.Edits.{place_free}
use Rattle.bunch_joining.proofs.Joining.{tells}
use Rattle.bunch_joining.proofs.Absent.{few_shown, gives_short, lacks, result_none, gives_judged}
use Rattle.bunch_joining.proofs.inner.adding.add_free.Goals as goal

pub bytes_of-needed-requires : goal.bytes_of-needed-requires
bytes_of-needed-requires c =
    let a = c.args in
    let q = c.requires in
    let m = settled_memory a.s.now in
    let f : Fragment = record { header = a.header; bits = a.bits; payload = a.payload.now } in
    omega (arith, few_shown a.s.now.accumulator m a.s.now.used q.0 a.ch_index a.i q.1 f q.2 q.3 a.met q.4 a.w a.answered q.5, q.2)

pub returns-then-output-needed-clause-gives : goal.returns-then-output-needed-clause-gives
returns-then-output-needed-clause-gives c =
    let a = c.args in
    let q = c.requires in
    let m = settled_memory a.s.now in
    let f : Fragment = record { header = a.header; bits = a.bits; payload = a.payload.now } in
    gives_short a.s.now.accumulator m a.s.now.used q.0 a.ch_index a.i q.1 f q.2 q.3 a.met q.4 a.w a.answered q.5 a.output.now _ c.bytes_of-needed.ensures c.if-output-needed.true

pub put_payload-requires : goal.put_payload-requires
put_payload-requires c =
    let a = c.args in
    let q = c.requires in
    let m = settled_memory a.s.now in
    let f : Fragment = record { header = a.header; bits = a.bits; payload = a.payload.now } in
    (omega (arith, few_shown a.s.now.accumulator m a.s.now.used q.0 a.ch_index a.i q.1 f q.2 q.3 a.met q.4 a.w a.answered q.5, q.3), omega (arith, c.if-output-needed.false, c.bytes_of-needed.ensures))

pub settle_free-requires : goal.settle_free-requires
settle_free-requires c =
    let a = c.args in
    let q = c.requires in
    let m = settled_memory a.s.now in
    let f : Fragment = record { header = a.header; bits = a.bits; payload = a.payload.now } in
    lacks a.s.now.accumulator m a.s.now.used q.0 a.ch_index a.i q.1 f q.2 q.3 a.met q.4 a.w a.answered q.5 c.sequence_of-sequence.result c.sequence_of-sequence.ensures c.start_of-start.result c.start_of-start.ensures

pub returns-clause-gives : goal.returns-clause-gives
returns-clause-gives c =
    let a = c.args in
    let q = c.requires in
    let m = settled_memory a.s.now in
    let f : Fragment = record { header = a.header; bits = a.bits; payload = a.payload.now } in
    gives_judged a.s.now.accumulator m a.s.now.used q.0 a.ch_index a.i q.1 f q.2 q.3 a.met q.4 a.w a.answered q.5 c.sequence_of-sequence.result c.sequence_of-sequence.ensures c.start_of-start.result c.start_of-start.ensures a.output.now
    (omega (arith, c.if-output-needed.false, c.bytes_of-needed.ensures)) c.put_payload.ensures
    (tells c.displaced-gone.result (displaced a.w.fate none f) (result_none a.s.now.accumulator m a.s.now.used q.0 a.ch_index a.i q.1 f q.2 q.3 a.met q.4 a.w a.answered q.5) (c.displaced-gone.ensures [] a.payload.now))
    c.settle_free.ensures.lays

pub displaced-gone-requires : goal.displaced-gone-requires
displaced-gone-requires c = (omega arith, c.requires.2)

pub start_of-start-requires : goal.start_of-start-requires
start_of-start-requires c = let q = c.requires in start_asks _ _ q.0.stands _ (place_free _ _ q.0.stands _ _ q.1)
