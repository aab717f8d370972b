-- The tests are laws of DrainCalls; past them `list_all`, whose memory the first test showed sound.
use Prim.Native.Nat.{ℕ}
use mathlib.Core.Path.{◌≡◌, sym, ap, ◌∙◌}
use mathlib.Core.Bool.{true}
use native.Mathlib.Omega.{arith}
use Rattle.bitio_window.specs.Refusals.{output_short, too_few_places}
use Rattle.bunch_held.specs.Memory.{held_memory}
use Rattle.bunch_held.specs.Sound.{memory_sound}
use Rattle.bunch_held.proofs.Soundness.{stands, passes}
use Rattle.bunch_held.proofs.Holding.{start_asks}
use Rattle.bunch.specs.Draining.{drain_refuses}
use Rattle.bunch_settling.proofs.Giving.{refuses, passed}
use Rattle.bunch.proofs.DrainCalls.{messages_are, bytes_are, ten, thirteen, fourteen, all_listed}
use Rattle.bunch.proofs.drains.drain_unfinished.Goals.{In-Ok}
use Rattle.bunch.proofs.drains.drain_unfinished.Goals as goal

-- past the first test
here : (e : In-Ok) → let a = e.args in
    memory_sound a.a.now (held_memory a.channels.now a.places.now a.arena.now) ≡ true
here e = passes _ _ (passed _ _ _ (sym e.pass.ensures ∙ e.in-Ok.is)).stands

pub returns-in_default : goal.returns-in_default
returns-in_default c =
    let a = c.args in
    let m = held_memory a.channels.now a.places.now a.arena.now in
    let r = refuses a.a.now m (sym c.pass.ensures ∙ c.in_default.is) in
    ten a.a.now m a.output.now a.list.now r.0

pub count-wanted-requires : goal.count-wanted-requires
count-wanted-requires c =
    let a = c.args in
    let m = held_memory a.channels.now a.places.now a.arena.now in
    start_asks a.a.now m (stands a.a.now m (here (goal.at.count-wanted-requires c).In-Ok)) a.a.now.active (omega arith)

pub returns-then-output-wanted : goal.returns-then-output-wanted
returns-then-output-wanted c =
    let a = c.args in
    let m = held_memory a.channels.now a.places.now a.arena.now in
    let s = here (goal.at.returns-then-output-wanted c).In-Ok in
    let bytes = c.count-wanted.ensures.1 ∙ bytes_are a.a.now m (stands a.a.now m s) in
    ap (λ (n : ℕ). drain_refuses (output_short n) a.a.now a.output.now a.list.now) bytes ∙ (thirteen a.a.now m a.output.now a.list.now s (rw bytes at c.if-output-wanted.true))

pub returns-then-list-wanted : goal.returns-then-list-wanted
returns-then-list-wanted c =
    let a = c.args in
    let m = held_memory a.channels.now a.places.now a.arena.now in
    let s = here (goal.at.returns-then-list-wanted c).In-Ok in
    let bytes = c.count-wanted.ensures.1 ∙ bytes_are a.a.now m (stands a.a.now m s) in
    let messages = c.count-wanted.ensures.0 ∙ messages_are a.a.now m (stands a.a.now m s) in
    ap (λ (n : ℕ). drain_refuses (too_few_places n) a.a.now a.output.now a.list.now) messages ∙ (fourteen a.a.now m a.output.now a.list.now s (rw bytes at c.if-output-wanted.false) (rw messages at c.if-list-wanted.true))

pub list_all-requires : goal.list_all-requires
list_all-requires c =
    let a = c.args in
    let m = held_memory a.channels.now a.places.now a.arena.now in
    let s = here (goal.at.list_all-requires c).In-Ok in
    let bytes = c.count-wanted.ensures.1 ∙ bytes_are a.a.now m (stands a.a.now m s) in
    let messages = c.count-wanted.ensures.0 ∙ messages_are a.a.now m (stands a.a.now m s) in
    (stands a.a.now m s, rw bytes at c.if-output-wanted.false, rw messages at c.if-list-wanted.false)

pub returns : goal.returns
returns c =
    let a = c.args in
    let m = held_memory a.channels.now a.places.now a.arena.now in
    let s = here (goal.at.returns c).In-Ok in
    let bytes = c.count-wanted.ensures.1 ∙ bytes_are a.a.now m (stands a.a.now m s) in
    let messages = c.count-wanted.ensures.0 ∙ messages_are a.a.now m (stands a.a.now m s) in
    let done = c.list_all.ensures in
    rw (messages, c.emptied.ensures, done.0, done.1) (all_listed a.a.now m a.output.now a.list.now s (rw bytes at c.if-output-wanted.false) (rw messages at c.if-list-wanted.false))
