-- Both ways of the test.
use Prim.Native.Nat.{ℕ}
use mathlib.Core.Path.{◌≡◌, sym, ◌∙◌}
use mathlib.Core.Bool.{Bool, true, false}
use Rattle.bitio_window.specs.Refusals.{unfit}
use Rattle.std.proofs.Common.{Ok, Err}
use Rattle.bunch_held.specs.Memory.{HeldMemory, held_memory}
use Rattle.bunch_held.specs.Sound.{fit}
use Rattle.bunch.specs.Opening.{holding_nothing, opened_accumulator}
use Rattle.bunch.proofs.opening.with_limits.Goals as goal

module _ (active buffered : ℕ) (m : HeldMemory) {r : Bool} (tests : r ≡ fit active buffered m) where
  fits : r ≡ true → Ok (holding_nothing active buffered) ≡ opened_accumulator active buffered m
  unfolding opened_accumulator
  fits e = rw (sym tests ∙ e)

  nine : r ≡ false → Err unfit ≡ opened_accumulator active buffered m
  unfolding opened_accumulator
  nine e = rw (sym tests ∙ e)

pub returns-then-fitting : goal.returns-then-fitting
unfolding fit
returns-then-fitting c =
    let a = c.args in
    fits a.max_active a.max_buffered_bits (held_memory a.channels.now a.places.now a.arena.now) c.fitting.ensures c.if-fitting.true

pub returns : goal.returns
unfolding fit
returns c =
    let a = c.args in
    nine a.max_active a.max_buffered_bits (held_memory a.channels.now a.places.now a.arena.now) c.fitting.ensures c.if-fitting.false
