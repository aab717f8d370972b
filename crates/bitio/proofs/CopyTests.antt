-- What is known of a copy that isn't refused, and what each answer leaves in the target.
use mathlib.Core.Path.{◌≡◌, refl, sym}
use mathlib.Core.List.{List}
use Prim.Native.Nat.{ℕ, ◌*◌, ◌-◌, ◌≤◌}
use lib.Dec.{ltb}
use borrow.Author.Tests.{ltb-false}
use Rattle.bitio_window.specs.declared.Window.{Window}
use Rattle.bitio_window.specs.declared.BitError.{BitError}
use Rattle.std.specs.Prelude.{Result, Ok, Err, IsErrAnd}
use Rattle.bitio_window.specs.Refusals.{place_of, too_few_bits, beyond}
use Rattle.bitio_window.specs.Parse.{got, ◌>>◌, refuse_if}
use Rattle.bitio_window.specs.Reads.{need, passed, skip}
use Rattle.bitio_window.specs.Copies.{copied, copy_bits, copy_leaves}
use Rattle.bitio_window.specs.Answers.{answer}
use Rattle.bitio_window.specs.Sound.{Sound}
use Rattle.bitio_window.proofs.Rows.{ahead}
use Rattle.bitio.proofs.Tests.{passes}

pub record Copyable (d : List ℕ) (w : Window) (room n : ℕ) : Type 0 where
  pub window : Sound d w
  pub target : n ≤ 8 * room
  pub there : n ≤ w.length - w.position.0

module _ (d : List ℕ) (w : Window) (room n : ℕ) (u : Window) where
  pub copyable : got tt u ≡ copy_bits room n d w → Copyable d w room n
  unfolding copy_bits skip need ◌>>◌
  copyable told =
      let first = passes d w (refuse_if (ltb (8 * room) n) (beyond n (8 * room)) >> skip n) (sym told) in
      let second = ahead d w (ltb (8 * room) n) (beyond n (8 * room)) (skip n) first.1 in
      let third = ahead d w (ltb (w.length - w.position.0) n) (too_few_bits (place_of w) w.length n) (passed n) second.1 in
      record { window = first.0; target = ltb-false _ _ second.0; there = ltb-false _ _ third.0 }

module _ (t d : List ℕ) (k n : ℕ) (u : Window) where
  pub nothing_left : (r : Result (Unit {0}) BitError) (e : BitError) → IsErrAnd r (λ x. x ≡ e) → t ≡ copy_leaves (answer r u) t d k n
  unfolding copy_leaves
  nothing_left (Ok v) e h = absurd h
  nothing_left (Err x) e h = refl

  pub copy_left : {l : List ℕ} → l ≡ copied t d k n → l ≡ copy_leaves (got tt u) t d k n
  unfolding copy_leaves
  copy_left e = e
