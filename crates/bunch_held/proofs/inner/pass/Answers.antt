-- The numbers first, which say that the passes stay within the columns; then the channels, and the places decide.
use Prim.Native.Nat.{◌≤◌}
use mathlib.Core.Path.{◌≡◌, refl, sym, ap, ◌∙◌}
use mathlib.Core.Bool.{Bool, true, false, cond}
use native.Mathlib.Omega.{arith}
use lib.ListN.{length, take, length-take}
use Rattle.std.proofs.Common.{ℕ, Result, Err, Some, None, ok_or}
use Rattle.tables.specs.Columns.{ascending}
use Rattle.bunch_held.specs.declared.Accumulator.{Accumulator}
use Rattle.bunch_held.specs.declared.BunchError.{BunchError}
use Rattle.bunch_held.specs.Memory.{HeldMemory, held_memory, size_all}
use Rattle.bunch_held.specs.Sound.{fit, places_sound, memory_sound}
use Rattle.bunch_held.specs.Calls.{tested}
use Rattle.bunch_held.proofs.Soundness.{counted, Counts, counts, stands}
use Rattle.bunch_held.proofs.Holding.{used_is}
use Rattle.bunch_held.proofs.inner.pass.Goals.{Else-ordered, Then-fits-active}
use Rattle.bunch_held.proofs.inner.pass.Goals as goal

module _ (a : Accumulator) (m : HeldMemory) where
  abbrev told : Bool → Result ℕ BunchError
  told b = ok_or (cond b (Some (size_all (take a.active m.places))) None) BunchError.Unsound

  places_decide : counted a m ≡ true → ascending (take a.active m.channels) ≡ true → told (places_sound (take a.active m.places) m.arena a.total_buffered_bits) ≡ tested a m
  unfolding memory_sound
  places_decide c o = go (places_sound (take a.active m.places) m.arena a.total_buffered_bits) refl
    where
      is : memory_sound a m ≡ places_sound (take a.active m.places) m.arena a.total_buffered_bits
      is = rw (c, o)

      go : (b : Bool) → places_sound (take a.active m.places) m.arena a.total_buffered_bits ≡ b → told b ≡ tested a m
      go true e = let s : memory_sound a m ≡ true = is ∙ e in rw (s, used_is a m (stands a m s)) refl
      go false e = let s : memory_sound a m ≡ false = is ∙ e in rw s refl

  disorder : counted a m ≡ true → ascending (take a.active m.channels) ≡ false → Err BunchError.Unsound ≡ tested a m
  unfolding memory_sound
  disorder c o = rw (c, o)

  miscounted : counted a m ≡ false → Err BunchError.Unsound ≡ tested a m
  unfolding memory_sound
  miscounted c = rw c

-- the first test, on the numbers
fits : (c : Then-fits-active) → let a = c.args in
    counted a.a (held_memory a.channels.now a.places.now a.arena.now) ≡ true
unfolding fit
fits c = rw c.fitting-fits.ensures at c.if-fits-active.true

shown : (c : Then-fits-active) → let a = c.args in
    Counts a.a (held_memory a.channels.now a.places.now a.arena.now)
shown c =
    let a = c.args in
    counts a.a (held_memory a.channels.now a.places.now a.arena.now) (fits c)

pub ascending-ordered-requires : goal.ascending-ordered-requires
ascending-ordered-requires c =
    let s = shown (goal.at.ascending-ordered-requires c).Then-fits-active in
    let a = c.args in
    let within : a.a.active ≤ length a.channels.now = omega (arith, s) in
    within

pub places_sound-requires : goal.places_sound-requires
places_sound-requires c =
    let a = c.args in
    let s = shown (goal.at.places_sound-requires c).Then-fits-active in
    let n : length (take a.a.active a.places.now) ≤ a.a.active = rw length-take (omega arith) in
    (omega (arith, s, n), omega (arith, s), omega (arith, s, n))

pub returns-then-ordered : goal.returns-then-ordered
returns-then-ordered c =
    let a = c.args in
    c.ok_or.ensures.value
    ∙ ap (λ used. ok_or used BunchError.Unsound) c.places_sound.ensures
    ∙ (places_decide a.a (held_memory a.channels.now a.places.now a.arena.now) (fits (goal.at.returns-then-ordered c).Then-fits-active) (sym c.ascending-ordered.ensures ∙ c.if-ordered.true))

pub returns-else-ordered : goal.returns-else-ordered
returns-else-ordered c =
    let a = c.args in
    disorder a.a (held_memory a.channels.now a.places.now a.arena.now) (fits (goal.at.returns-else-ordered (goal.at.returns-else-ordered c).Else-ordered).Then-fits-active) (sym c.ascending-ordered.ensures ∙ c.if-ordered.false)

pub returns-else-fits-active : goal.returns-else-fits-active
unfolding fit
returns-else-fits-active c =
    let a = c.args in
    miscounted a.a (held_memory a.channels.now a.places.now a.arena.now) (rw c.fitting-fits.ensures at c.if-fits-active.false)
