-- What is left to test, from a place on, decides; each message fits, since the room for the bits that are left is there.
use Prim.Native.Nat.{◌+◌}
use mathlib.Core.Path.{◌≡◌, refl, sym, ◌∙◌}
use native.Mathlib.Omega.{arith}
use lib.ListN.{length, drop}
use borrow.Author.Tests.{eq-eqb, ne_eqb}
use lib.Seq.{take-length}
use Rattle.bunch_held.specs.Memory.{sum_of}
use Rattle.bunch_held.proofs.Sums.{turn}
use Rattle.bunch_held.proofs.Passing.{too_many, one_unsound, one_sound, passed}
use Rattle.bunch_held.proofs.inner.places_sound.Goals as goal

pub loop-p-init : goal.loop-p-init
unfolding sum_of
loop-p-init c = (omega arith, omega arith, refl, refl)

pub returns-then-left-bits : goal.returns-then-left-bits
returns-then-left-bits c =
    let l = c.loop-p in
    let a = c.args in
    rw (l.invariant.3 ∙ too_many a.places.now a.arena.now l.p-index l.start l.left (omega arith) c.if-left-bits.true) refl

pub returns-then-not-place_sound : goal.returns-then-not-place_sound
returns-then-not-place_sound c =
    let l = c.loop-p in
    let a = c.args in
    let s = sym c.place_sound.ensures ∙ c.if-not-place_sound.true in
    rw (l.invariant.3 ∙ one_unsound a.places.now a.arena.now l.p-index l.start l.left (omega arith) c.if-left-bits.false s) refl

pub loop-p-preserved : goal.loop-p-preserved
loop-p-preserved c =
    let l = c.loop-p in
    let a = c.args in
    let t = turn a.places.now l.p-index (omega arith) in
    let e = c.bytes_of-start.ensures in
    let s = sym c.place_sound.ensures ∙ c.if-not-place_sound.false in
    let on = one_sound a.places.now a.arena.now l.p-index l.start l.left (omega arith) c.if-left-bits.false (l.p-index + 1) (l.start + c.bytes_of-start.result) (omega arith) (omega arith) s in
    (omega arith, omega arith, omega (arith, t.more), l.invariant.3 ∙ on)

pub returns-then-left-eq0 : goal.returns-then-left-eq0
returns-then-left-eq0 c =
    let l = c.loop-p in
    let a = c.args in
    let e : l.p-index ≡ length a.places.now = omega arith in
    let s = l.invariant.3 ∙ passed a.places.now (drop l.start a.arena.now) l.p-index l.left e ∙ eq-eqb l.left 0 c.if-left-eq0.true in
    rw (s, l.invariant.2, e, take-length) refl

pub returns-else-left-eq0 : goal.returns-else-left-eq0
returns-else-left-eq0 c =
    let l = c.loop-p in
    let a = c.args in
    let e : l.p-index ≡ length a.places.now = omega arith in
    let s = l.invariant.3 ∙ passed a.places.now (drop l.start a.arena.now) l.p-index l.left e ∙ ne_eqb l.left 0 c.if-left-eq0.false in
    rw s refl
