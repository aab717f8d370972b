-- The loop is before byte k of the number, as Packed's `Turn` has it; each way out is a law of that record.
use mathlib.Core.Path.{◌≡◌, refl, ap, sym, ◌∙◌}
use Prim.Native.Nat.{ℕ, ◌<◌, ◌≤◌, ◌+◌, ◌*◌, ◌-◌, ◌/◌, ◌%◌, ◌^◌}
use native.Mathlib.Nat.{div-one}
use native.Mathlib.Omega.{arith}
use lib.Pow.{shr-shr}
use Rattle.bitio_bits.specs.Bits.{bits_at}
use Rattle.bitio_window.specs.declared.Window.{Window}
use Rattle.bitio_window.specs.Places.{packet_bit}
use Rattle.bitio_window.specs.Parse.{advanced}
use Rattle.bitio_window.proofs.Handed.{handed_on}
use Rattle.bitio_window.proofs.Steps.{advanced_none, advanced_past, sound_past}
use Rattle.bitio_window.proofs.Packed.{begin, cut_byte, sum_fits, scale_fits, only_fifth, large, value, next}
use Rattle.bitio_window.proofs.inner.numbers.packed.Goals.{After-advance, After-low-byte}
use Rattle.bitio_window.proofs.inner.numbers.packed.Goals as goal

pub loop-k-init : goal.loop-k-init
loop-k-init c =
    record {
      at = sym (advanced_none c.args.w.now);
      there = omega arith;
      rest = sym (div-one c.peek-rest.result);
      turn = begin c.args.bytes.now c.args.w.now;
    }

pub need-requires : goal.need-requires
need-requires c = rw c.loop-k.invariant.at (omega (arith, c.requires.cursor_within, c.loop-k.invariant.there))

pub returns-in_err-need : goal.returns-in_err-need
returns-in_err-need c =
    let l = c.loop-k in
    let s = c.in_err-need.ensures.short in
    let f = rw l.invariant.at at s.0 in
    rw (handed_on c.from_residual.result c.in_err-need.field-0.0 l.w c.from_residual.ensures.1, s.1, l.invariant.at) (
      sym (cut_byte c.args.bytes.now c.args.w.now l.invariant.turn (omega arith) (omega (arith, f))),
      sound_past c.args.bytes.now c.args.w.now (8 * l.k) c.requires l.invariant.there,
    )

-- a whole byte is there,
is-there : (c : After-advance) → 8 ≤ c.args.w.now.length - c.args.w.now.position.0 - 8 * c.loop-k.k
is-there c = let f = rw c.loop-k.invariant.at at c.in_ok-need.ensures.there in omega (arith, f)

-- the reader past it,
past : (c : After-advance) → c.advance.new.self ≡ advanced c.args.w.now (8 * c.loop-k.k + 8)
past c =
    c.advance.ensures ∙ ap (λ (v : Window). advanced v 8) c.loop-k.invariant.at
    ∙ advanced_past c.args.w.now (8 * c.loop-k.k) 8 (8 * c.loop-k.k + 8) refl

-- and the low bits of what is left of the peeked word are that byte
the-byte : (c : After-low-byte) → bits_at c.args.bytes.now ((packet_bit c.args.w.now).0 + 8 * c.loop-k.k) 8 ≡ c.low-byte.result
the-byte c =
    let l = c.loop-k in
    let word = rw c.packet_bit.ensures at c.peek-rest.ensures in
    sym (word.field (8 * l.k) 8 (omega arith)) ∙ ap (λ (x : ℕ). x % 256) (sym l.invariant.rest) ∙ sym c.low-byte.ensures.0

fits : (c : After-low-byte) → 8 ≤ c.args.w.now.length - c.args.w.now.position.0 - 8 * c.loop-k.k → c.loop-k.value + c.low-byte.result / 2 * c.loop-k.scale < 2 ^ 35
fits c h = sum_fits c.args.bytes.now c.args.w.now c.loop-k.invariant.turn c.loop-k-test.true (the-byte c) c.low-byte.ensures.2 h

pub overflow_mul-value : goal.overflow_mul-value
overflow_mul-value c = let g = goal.at.overflow_mul-value c in omega (arith, fits g.After-low-byte (is-there g.After-advance))

pub overflow_add-value : goal.overflow_add-value
overflow_add-value c = let g = goal.at.overflow_add-value c in omega (arith, fits g.After-low-byte (is-there g.After-advance))

pub returns-then-value-gt4294967295 : goal.returns-then-value-gt4294967295
returns-then-value-gt4294967295 c =
    let g = goal.at.returns-then-value-gt4294967295 c in
    let l = c.loop-k in
    let d = c.args.bytes.now in
    let w = c.args.w.now in
    let small = c.low-byte.ensures.2 in
    let there = is-there g.After-advance in
    let k = only_fifth d w l.invariant.turn c.loop-k-test.true (the-byte g.After-low-byte) small there c.if-value-gt4294967295.true in
    let end : 8 * l.k + 8 ≡ 40 = omega arith in
    rw (c.place_of.ensures, past g.After-advance, end) (
      sym (large d w l.invariant.turn c.loop-k-test.true (the-byte g.After-low-byte) small there c.if-byte-eq0.true c.if-value-gt4294967295.true),
      sound_past d w 40 c.requires (omega arith),
    )

pub returns-then-byte-eq0 : goal.returns-then-byte-eq0
returns-then-byte-eq0 c =
    let g = goal.at.returns-then-byte-eq0 c in
    let l = c.loop-k in
    let d = c.args.bytes.now in
    let w = c.args.w.now in
    let there = is-there g.After-advance in
    rw (past g.After-advance) (
      sym (value d w l.invariant.turn c.loop-k-test.true (the-byte g.After-low-byte) c.low-byte.ensures.2 there c.if-byte-eq0.true c.if-value-gt4294967295.false),
      sound_past d w (8 * l.k + 8) c.requires (omega arith),
    )

pub overflow_mul-scale : goal.overflow_mul-scale
overflow_mul-scale c =
    let g = goal.at.overflow_mul-scale c in
    omega (arith, scale_fits c.args.bytes.now c.args.w.now c.loop-k.invariant.turn c.loop-k-test.true (the-byte g.After-low-byte) c.low-byte.ensures.2 (is-there g.After-advance))

pub loop-k-preserved : goal.loop-k-preserved
loop-k-preserved c =
    let g = goal.at.loop-k-preserved c in
    let l = c.loop-k in
    let x : ℕ = c.peek-rest.result in
    let f : 8 * l.k + 8 ≡ 8 * (l.k + 1) = omega arith in
    let there = is-there g.After-advance in
    record {
      at = past g.After-advance ∙ ap (advanced c.args.w.now) f;
      there = omega arith;
      rest = ap (λ (y : ℕ). y / 256) l.invariant.rest ∙ shr-shr x (8 * l.k) 8 ∙ ap (λ (j : ℕ). x / 2 ^ j) f;
      turn = next c.args.bytes.now c.args.w.now l.invariant.turn c.loop-k-test.true (the-byte g.After-low-byte) c.low-byte.ensures.2 there c.if-byte-eq0.false;
    }

pub returns : goal.returns
returns c =
    let l = c.loop-k in
    let end : 8 * l.k ≡ 40 = omega arith in
    rw (c.place_of-2.ensures, l.invariant.at, end) (
      sym (l.invariant.turn.over (omega arith)),
      sound_past c.args.bytes.now c.args.w.now 40 c.requires (omega arith),
    )
