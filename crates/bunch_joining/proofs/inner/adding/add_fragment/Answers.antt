-- The payload's two tests, then what is met at the slot that was found is weighed, and the slot decides who goes on.
use mathlib.Core.Path.{sym, ◌∙◌}
use Rattle.bunch_settling.specs.Settling.{settled_memory}
use Rattle.bunch_judging.specs.Held.{Fragment}
use Rattle.bunch_joining.proofs.Joining.{always_same, gives_long, gives_few}
use Rattle.bunch_joining.proofs.Meetings.{meetable, meets_few, met_at, weighs}
use Rattle.bunch_joining.proofs.inner.adding.add_fragment.Goals as goal

pub returns-then-bits-gt-MAX_PAYLOAD_BITS-clause-gives : goal.returns-then-bits-gt-MAX_PAYLOAD_BITS-clause-gives
returns-then-bits-gt-MAX_PAYLOAD_BITS-clause-gives c =
    let a = c.args in
    let m = settled_memory a.s.now in
    let f : Fragment = record { header = a.header; bits = a.bits; payload = a.payload.now } in
    gives_long a.s.now.accumulator m a.s.now.used c.requires a.ch_index f a.output.now (always_same a.s.now.accumulator m a.s.now.used c.requires a.ch_index) c.if-bits-gt-MAX_PAYLOAD_BITS.true

pub returns-then-payload-bytes_of-clause-gives : goal.returns-then-payload-bytes_of-clause-gives
returns-then-payload-bytes_of-clause-gives c =
    let a = c.args in
    let m = settled_memory a.s.now in
    let f : Fragment = record { header = a.header; bits = a.bits; payload = a.payload.now } in
    gives_few a.s.now.accumulator m a.s.now.used c.requires a.ch_index f a.output.now (always_same a.s.now.accumulator m a.s.now.used c.requires a.ch_index) c.if-bits-gt-MAX_PAYLOAD_BITS.false (rw c.bytes_of.ensures at c.if-payload-bytes_of.true)

pub meet-met-requires : goal.meet-met-requires
meet-met-requires c =
    let a = c.args in
    let m = settled_memory a.s.now in
    meetable a.s.now.accumulator m a.s.now.used c.requires a.ch_index _ (sym c.find-slot.ensures) a.bits c.if-bits-gt-MAX_PAYLOAD_BITS.false

pub weigh-w-requires : goal.weigh-w-requires
weigh-w-requires c =
    let a = c.args in
    let m = settled_memory a.s.now in
    (meets_few a.s.now.accumulator a.s.now.places.now c.find-slot.result a.header.b_partial_initial a.bits c.meet-met.result (meetable a.s.now.accumulator m a.s.now.used c.requires a.ch_index c.find-slot.result (sym c.find-slot.ensures) a.bits c.if-bits-gt-MAX_PAYLOAD_BITS.false) c.meet-met.ensures).0

pub result-answered-requires : goal.result-answered-requires
result-answered-requires c =
    let a = c.args in
    let m = settled_memory a.s.now in
    ((meets_few a.s.now.accumulator a.s.now.places.now c.find-slot.result a.header.b_partial_initial a.bits c.meet-met.result (meetable a.s.now.accumulator m a.s.now.used c.requires a.ch_index c.find-slot.result (sym c.find-slot.ensures) a.bits c.if-bits-gt-MAX_PAYLOAD_BITS.false) c.meet-met.ensures).1, c.if-bits-gt-MAX_PAYLOAD_BITS.false)

pub add_held-requires : goal.add_held-requires
add_held-requires c = (
  c.requires,
  sym c.find-slot.ensures ∙ c.in-Ok.is,
  c.if-bits-gt-MAX_PAYLOAD_BITS.false,
  rw c.bytes_of.ensures at c.if-payload-bytes_of.false,
  met_at c.args.s.now.accumulator c.args.s.now.places.now c.args.header.b_partial_initial c.args.bits c.meet-met.result c.in-Ok.is c.meet-met.ensures,
  weighs c.weigh-w.ensures c.result-answered.ensures,
)

pub add_free-requires : goal.add_free-requires
add_free-requires c = (
  c.requires,
  sym c.find-slot.ensures ∙ c.in-Err.is,
  c.if-bits-gt-MAX_PAYLOAD_BITS.false,
  rw c.bytes_of.ensures at c.if-payload-bytes_of.false,
  met_at c.args.s.now.accumulator c.args.s.now.places.now c.args.header.b_partial_initial c.args.bits c.meet-met.result c.in-Err.is c.meet-met.ensures,
  weighs c.weigh-w.ensures c.result-answered.ensures,
)

pub returns-in-Ok-clause-gives : goal.returns-in-Ok-clause-gives
returns-in-Ok-clause-gives c = c.add_held.ensures.gives

pub returns-in-Err-clause-gives : goal.returns-in-Err-clause-gives
returns-in-Err-clause-gives c = c.add_free.ensures.gives
