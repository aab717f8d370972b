-- A drain that lists found the memory sound, so that its places can be counted; the words are what the call answers.
use mathlib.Core.Path.{◌∙◌}
use native.Mathlib.Omega.{arith}
use Rattle.bunch_held.specs.Memory.{held_memory, accumulator_of}
use Rattle.bunch_held.proofs.Soundness.{stands}
use Rattle.bunch_held.proofs.Holding.{start_asks}
use Rattle.bunch.proofs.DrainCalls.{bytes_are}
use Rattle.exports_bunch.specs.Drained.{shown_byte_count}
use Rattle.exports_bunch.proofs.Draining.{was_sound, told_lists, told_refuses}
use Rattle.exports_bunch.proofs.drains.gritwheel_drain_unfinished.Goals as goal

pub count-wanted-requires : goal.count-wanted-requires
count-wanted-requires c =
    let x = c.args in
    let a = accumulator_of x.max_active x.max_buffered_bits x.active x.total in
    let m = held_memory x.channels.now x.places.now x.arena.now in
    let answer = c.drain_unfinished-answer in
    start_asks a m (stands a m (was_sound answer.result answer.new.a _ _ a m x.output.now x.list.now answer.ensures c.in-Ok.is)) x.active (omega arith)

pub returns-in-Ok : goal.returns-in-Ok
returns-in-Ok c =
    let x = c.args in
    let a = accumulator_of x.max_active x.max_buffered_bits x.active x.total in
    let m = held_memory x.channels.now x.places.now x.arena.now in
    let answer = c.drain_unfinished-answer in
    let s = stands a m (was_sound answer.result answer.new.a _ _ a m x.output.now x.list.now answer.ensures c.in-Ok.is) in
    rw (c.count-wanted.ensures.1 ∙ bytes_are a m s) (told_lists answer.result answer.new.a _ _ answer.ensures (shown_byte_count a m) c.in-Ok.is)

pub returns-in-Err : goal.returns-in-Err
returns-in-Err c =
    let x = c.args in
    let a = accumulator_of x.max_active x.max_buffered_bits x.active x.total in
    let m = held_memory x.channels.now x.places.now x.arena.now in
    let answer = c.drain_unfinished-answer in
    rw c.said-s.ensures (told_refuses answer.result answer.new.a _ _ answer.ensures (shown_byte_count a m) c.in-Err.is)
