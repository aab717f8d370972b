-- From the data's end down: what has been read is the number that the bytes from i on make.
use mathlib.Core.Path.{◌≡◌, refl, ap, sym, ◌∙◌}
use mathlib.Core.List.{List}
use Prim.Native.Nat.{ℕ, suc, ◌+◌, ◌*◌, ◌-◌, ◌≤◌, ◌<◌}
use native.Mathlib.Decide.{dec_le}
use native.Mathlib.Omega.{arith}
use lib.ListN.{length, get_or}
use Rattle.bitio_bits.specs.Words.{eight_at}
use Rattle.bitio_bits.proofs.Numbers.{Bytes, from, from_step}
use Rattle.bitio_bits.proofs.Loads.{from_end, few_bytes, last_eight}
use Rattle.bitio_window.proofs.inner.words.eight_padded.Goals as goal

pub loop-i-init : goal.loop-i-init
loop-i-init c =
    let d = c.args.bytes.now in
    (omega arith, sym (from_end d (λ j. omega (arith, c.shared_slice_known-1.given j)) (length d) (omega arith)), λ h. refl)

pub overflow_mul-word : goal.overflow_mul-word
overflow_mul-word c =
    let l = c.loop-i in
    omega (arith, l.invariant.1, few_bytes c.args.bytes.now (λ j. omega (arith, c.shared_slice_known-1.given j)) l.i (omega arith) (omega arith))

step : (d : List ℕ) → Bytes d → (i : ℕ) → 0 < i → {word byte : ℕ} → word ≡ from d i → byte ≡ get_or d (i - 1) 0 → 256 * word + byte ≡ from d (i - 1)
step d b i h e f =
    let j : suc (i - 1) ≡ i = omega arith in
    sym (from_step d b (i - 1) ∙ ap (λ (k : ℕ). get_or d (i - 1) 0 + 256 * from d k) j ∙ omega (arith, e, f))

pub overflow_add-word : goal.overflow_add-word
overflow_add-word c =
    let l = c.loop-i in
    omega (arith, l.invariant.1, c.byte.ensures.1, few_bytes c.args.bytes.now (λ j. omega (arith, c.shared_slice_known-1.given j)) l.i (omega arith) (omega arith))

pub loop-i-preserved : goal.loop-i-preserved
loop-i-preserved c =
    let l = c.loop-i in (
      omega arith,
      step c.args.bytes.now (λ j. omega (arith, c.shared_slice_known-1.given j)) l.i (omega arith) l.invariant.1 c.byte.ensures.0,
      λ h. absurd (omega arith),
    )

-- at the place, or past the data's end, where nothing is
ended : (d : List ℕ) (b : Bytes d) (at i : ℕ) {word : ℕ} → i ≤ at → length d < at + 8 → word ≡ from d i → (i < at → length d ≡ i) → word ≡ eight_at d at
ended d b at i h f e past =
    elim (dec_le at i) [
      | yes m ↦ let same : i ≡ at = omega arith in e ∙ ap (from d) same ∙ last_eight d b at f
      | no m ↦ let end = past (omega arith) in e ∙ from_end d b i (omega arith) ∙ sym (from_end d b at (omega arith)) ∙ last_eight d b at f
    ]

pub returns : goal.returns
returns c =
    let a = c.args in
    let l = c.loop-i in
    ended a.bytes.now (λ j. omega (arith, c.shared_slice_known-1.given j)) a.at l.i (omega arith) c.requires l.invariant.1 l.invariant.2
