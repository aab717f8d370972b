-- Nothing's header comes back from its words.
use mathlib.Core.Path.{refl}
use native.Mathlib.Nat.{zero-add}
use Rattle.words.specs.Range.{InRange}
use Rattle.words.proofs.Back.{back}
use Rattle.bunch_judging.proofs.inner.displacement.joined.Goals as goal

pub returns-in-None : goal.returns-in-None
returns-in-None c bytes payload =
    let h = c.args.header in
    let g = c.well_formed.1.1.0.1.1 in
    let late = g.1.1.1.1.1.1.1.1.1.1.1.1 in
    let r : InRange h =
    record {
      packet_id = record { sfits = g.0.1 };
      ch_index = g.1.0.1;
      ch_sequence = record { sfits = late.0.1 };
      payload_bit_count = late.1.1.0.1;
      payload_bit_offset = late.1.1.1.0.1;
    }
    in
    rw (c.in-None.is, back h r, zero-add) refl

pub returns-in-Some : goal.returns-in-Some
returns-in-Some c bytes payload = rw c.in-Some.is (c.message.ensures bytes)
