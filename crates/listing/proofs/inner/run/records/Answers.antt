-- `Going` holds at each turn.
use Rattle.std.proofs.Common.{sym, ◌∙◌, arith, rules}
use Rattle.listing.proofs.Going.{lies}
use Rattle.listing.proofs.inner.run.records.Goals.{in-Some+in-Ok, in-Some+in-Err, in_default}
use Rattle.listing.proofs.inner.run.records.Goals as goal

pub slice_bounds-tell-count : goal.slice_bounds-tell-count
slice_bounds-tell-count g c =
    let l = c.records in
    (lies l.buffer l.part.held l.at l.invariant.0.held.inside (sym c.record_at-found.ensures.0 ∙ c.in-Some.is)).long

pub slice_bounds-tell-start : goal.slice_bounds-tell-start
slice_bounds-tell-start g c =
    let l = c.records in
    (lies l.buffer l.part.held l.at l.invariant.0.held.inside (sym c.record_at-found.ensures.0 ∙ c.in-Some.is)).long

pub slice_bounds-tell-end : goal.slice_bounds-tell-end
slice_bounds-tell-end g c =
    let l = c.records in
    let q = lies l.buffer l.part.held l.at l.invariant.0.held.inside (sym c.record_at-found.ensures.0 ∙ c.in-Some.is) in
    omega (arith, q.inside, l.invariant.0.held.inside)

pub records-preserved : goal.records-preserved
records-preserved g c =
    let l = c.records in
    let i = l.invariant.0 in
    elim c.match-found.branch [
      | in-Some+in-Ok w ↦
          let t = w.tell-told.ensures.told.0 in
          rw (w.buffer-is, w.out-is, w.part-is, w.at-is, w.used-is, w.columns-is, w.live_sequences-is, w.live_partials-is) (
            record {
              held = i.held;
              place = (lies l.buffer l.part.held l.at i.held.inside (sym c.record_at-found.ensures.0 ∙ w.in-Some.is)).inside;
              room = w.in-Ok.ensures.room;
              in_size = i.in_size;
              out_size = t.size ∙ i.out_size;
              state = rw w.tell-told.ensures.told.1 at t.state;
            },
            search rules,
          )
      | in-Some+in-Err w ↦ let over = rw w.outcome-is at c.is_over.ensures in let not_over = c.if-is_over.false in cc
      | in_default w ↦
          let r = w.refill-refilled in
          rw (w.buffer-is, w.out-is, w.part-is, w.at-is, w.used-is, w.columns-is, w.live_sequences-is, w.live_partials-is) (
            record {
              held = r.ensures.part.0;
              place = omega arith;
              room = i.room;
              in_size = search rules;
              out_size = i.out_size;
              state = i.state;
            },
            search rules,
          )
    ]
