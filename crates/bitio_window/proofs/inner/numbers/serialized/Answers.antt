-- The four ways out are the laws of Serialized, at the low bits of the peeked word.
use mathlib.Core.Path.{◌≡◌, refl, ap, ap₂, sym, ◌∙◌}
use mathlib.Core.Bool.{cond}
use Prim.Native.Nat.{ℕ, zero, suc, ◌+◌, ◌*◌, ◌/◌, ◌%◌, ◌^◌, ◌<◌}
use native.Mathlib.Nat.{mul-zero, mul-one, mod-lt, pow-succ'}
use native.Mathlib.Numerals.{add-one}
use native.Mathlib.Omega.{arith}
use lib.Dec.{eqb}
use borrow.Author.Tests.{leb-true, leb-false}
use Rattle.bitio_bits.specs.Bits.{bits_at}
use Rattle.bitio_bits.proofs.Numbers.{bits_append}
use Rattle.bitio_bits.proofs.Loads.{peeked_low}
use Rattle.bitio_window.specs.declared.Window.{Window}
use Rattle.bitio_window.specs.Parse.{advanced}
use Rattle.bitio_window.specs.Places.{packet_bit}
use Rattle.bitio_window.proofs.Handed.{handed_on}
use Rattle.bitio_window.proofs.Steps.{advanced_past, sound_past}
use Rattle.bitio_window.proofs.Serialized.{cut, without_top, cut_top, with_top}
use Rattle.bitio_window.proofs.inner.numbers.serialized.Goals.{After-low-value, After-only_if}
use Rattle.bitio_window.proofs.inner.numbers.serialized.Goals as goal

pub returns-in_err-need : goal.returns-in_err-need
returns-in_err-need c =
    let s = c.in_err-need.ensures.short in
    rw (handed_on c.from_residual.result c.in_err-need.field-0.0 c.args.w.now c.from_residual.ensures.1, s.1)
    (sym (cut c.args.bytes.now c.args.w.now c.args.max (sym c.floor_log2-width.ensures.0) s.0), c.requires.0)

-- the low bits of the peeked word are the next ones
the_value : (c : After-low-value) → bits_at c.args.bytes.now (packet_bit c.args.w.now).0 c.floor_log2-width.result ≡ c.low-value.result
the_value c = sym (peeked_low c.args.bytes.now (packet_bit c.args.w.now).0 c.floor_log2-width.result (rw c.packet_bit.ensures at c.peek-word.ensures) (omega (arith, c.floor_log2-width.ensures.1))) ∙ sym c.low-value.ensures.0

pub is_whole-requires : goal.is_whole-requires
is_whole-requires c =
    (rw (sym c.power-top.ensures.0) at c.low-value.ensures.2, rw (sym c.power-top.ensures.0) at c.floor_log2-width.ensures.2)

pub overflow_cast-result : goal.overflow_cast-result
overflow_cast-result c = omega (arith, c.low-value.ensures.2, c.floor_log2-width.ensures.2)

pub returns-then-is_whole : goal.returns-then-is_whole
returns-then-is_whole c =
    let n = c.floor_log2-width in
    let p = c.power-top in
    let d = c.args.bytes.now in
    let there = c.in_ok-need.ensures.there in
    let f = leb-true c.args.max (c.low-value.result + p.result) (sym c.is_whole.ensures ∙ c.if-is_whole.true) in
    rw c.advance.ensures (
      sym (without_top d c.args.w.now c.args.max (sym n.ensures.0) (the_value (goal.at.returns-then-is_whole c).After-low-value) there (omega (arith, p.ensures.0, f))),
      sound_past d c.args.w.now n.result c.requires.0 there,
    )

pub returns-then-left-lt1 : goal.returns-then-left-lt1
returns-then-left-lt1 c =
    let n = c.floor_log2-width in
    let p = c.power-top in
    let d = c.args.bytes.now in
    let there = c.in_ok-need.ensures.there in
    let short = rw (c.left.ensures, c.advance.ensures) at c.if-left-lt1.true in
    let f = leb-false c.args.max (c.low-value.result + p.result) (sym c.is_whole.ensures ∙ c.if-is_whole.false) in
    rw (c.too_few_bits.ensures, c.advance.ensures) (
      sym (cut_top d c.args.w.now c.args.max (sym n.ensures.0) (the_value (goal.at.returns-then-left-lt1 c).After-low-value) there (omega (arith, p.ensures.0, f)) (omega (arith, short))),
      sound_past d c.args.w.now n.result c.requires.0 there,
    )

-- the bit above them counts 2^n, or nothing
counts : (b t : ℕ) → b < 2 → cond (eqb b 1) t 0 ≡ t * b
counts zero t h = sym (mul-zero t)
counts (suc zero) t h = sym (mul-one t)
counts (suc (suc b)) t h = absurd (omega (arith, h))

twice : (n : ℕ) → 2 ^ (n + 1) ≡ 2 * 2 ^ n
twice n = rw add-one (pow-succ' 2 n)

the_whole : (c : After-only_if) → bits_at c.args.bytes.now (packet_bit c.args.w.now).0 c.floor_log2-width.result ≡ c.low-value.result
    → bits_at c.args.bytes.now (packet_bit c.args.w.now).0 (c.floor_log2-width.result + 1) ≡ c.low-value.result + c.only_if.result
the_whole c low =
    let d = c.args.bytes.now in
    let k : ℕ = (packet_bit c.args.w.now).0 in
    let n = c.floor_log2-width in
    let x : ℕ = c.peek-word.result in
    let word = rw c.packet_bit.ensures at c.peek-word.ensures in
    let top = counts (x / 2 ^ n.result % 2) c.power-top.result (mod-lt (x / 2 ^ n.result) (omega arith)) in
    bits_append d k n.result 1
    ∙ ap₂ (λ (v b : ℕ). v + b) low (ap (λ (b : ℕ). 2 ^ n.result * b) (sym (word.field n.result 1 (omega (arith, n.ensures.1)))) ∙ sym (c.only_if.ensures.0 ∙ top ∙ ap (λ (t : ℕ). t * (x / 2 ^ n.result % 2)) c.power-top.ensures.0))

small : (c : After-only_if) → c.low-value.result + c.only_if.result < 2 ^ 32
small c = omega (arith, c.low-value.ensures.2, c.only_if.ensures.1, c.power-top.ensures.0, twice c.floor_log2-width.result, c.floor_log2-width.ensures.3)

pub returns : goal.returns
returns c =
    let g = goal.at.returns c in
    let n = c.floor_log2-width in
    let p = c.power-top in
    let d = c.args.bytes.now in
    let there = c.in_ok-need.ensures.there in
    let more = rw (c.left.ensures, c.advance.ensures) at c.if-left-lt1.false in
    let f = leb-false c.args.max (c.low-value.result + p.result) (sym c.is_whole.ensures ∙ c.if-is_whole.false) in
    let past = c.advance-2.ensures ∙ ap (λ (w : Window). advanced w 1) c.advance.ensures ∙ advanced_past c.args.w.now n.result 1 (n.result + 1) refl in
    rw (past, sym (the_whole g.After-only_if (the_value g.After-low-value))) (
      sym (with_top d c.args.w.now c.args.max (sym n.ensures.0) (the_value g.After-low-value) there (omega (arith, p.ensures.0, f)) (omega (arith, more, there))),
      sound_past d c.args.w.now (n.result + 1) c.requires.0 (omega (arith, more, there)),
    )

pub overflow_add-result : goal.overflow_add-result
overflow_add-result c = omega (arith, small (goal.at.overflow_add-result c).After-only_if)

pub overflow_cast-result-2 : goal.overflow_cast-result-2
overflow_cast-result-2 c = omega (arith, small (goal.at.overflow_cast-result-2 c).After-only_if)
