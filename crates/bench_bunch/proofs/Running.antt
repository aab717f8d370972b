-- A row in progress: what is still to come is what the whole comes to.
use Rattle.std.proofs.Common.{◌≡◌, ℕ, suc, ◌+◌, ◌-◌, ◌%◌, ◌^◌, ◌<◌, ◌≤◌, List, [], ◌∷◌, length, get_or, drop, sym, refl, ap, ◌∙◌, arith, drop_of_length-le, drop-cons}
use native.Mathlib.Nat.{sub-zero}
use Rattle.bunch_held.specs.declared.Accumulator.{Accumulator}
use Rattle.bunch_held.specs.Memory.{held_memory}
use Rattle.bunch_settling.specs.Settling.{Using}
use Rattle.bench_bunch.specs.Chains.{summed, Run, run, turns, Ends}

-- a sum of words, of which those from number k on are to come
module _ (words : List ℕ) {whole : ℕ} (sum k : ℕ) (row : summed sum (drop k words) ≡ whole) where
  pub sum_on : k < length words → summed ((sum + get_or words k 0) % 2 ^ 64) (drop (k + 1) words) ≡ whole
  unfolding summed
  sum_on h =
      let next : k + 1 ≡ suc k = omega arith in
      rw next (ap (summed sum) (sym (drop-cons words k 0 h)) ∙ row)

  pub sum_ends : length words ≤ k → sum ≡ whole
  unfolding summed
  sum_ends h = ap (summed sum) (sym (drop_of_length-le words h)) ∙ row

-- a word, and then a list
pub one_more : (sum w : ℕ) (ws : List ℕ) {r with_it : ℕ} {list : List ℕ} → with_it ≡ (sum + w) % 2 ^ 64 → list ≡ ws → r ≡ summed with_it list → r ≡ summed sum (w ∷ ws)
unfolding summed
one_more sum w ws e f h = h ∙ rw (e, f) refl

-- the same of turns
module _ (go : ℕ → Run → Run) (n k : ℕ) (x : Run) {whole : Run} (row : turns go (n - k) k x ≡ whole) where
  pub turn_on : k < n → turns go (n - (k + 1)) (k + 1) (go k x) ≡ whole
  unfolding turns
  turn_on h = let less : n - k ≡ suc (n - (k + 1)) = omega arith in ap (λ (m : ℕ). turns go m k x) (sym less) ∙ row

  pub turn_after : {y : Run} → y ≡ go k x → k < n → turns go (n - (k + 1)) (k + 1) y ≡ whole
  turn_after e h = ap (turns go (n - (k + 1)) (k + 1)) e ∙ turn_on h

  pub turns_end : n ≤ k → x ≡ whole
  unfolding turns
  turns_end h = let none : n - k ≡ 0 = omega arith in ap (λ (m : ℕ). turns go m k x) (sym none) ∙ row

pub turns_begin : (go : ℕ → Run → Run) (n : ℕ) (x : Run) → turns go (n - 0) 0 x ≡ turns go n 0 x
turns_begin go n x = ap (λ (m : ℕ). turns go m 0 x) (sub-zero n)

-- the end, where the memory comes back in its three slices
pub ended : {x : Run} (a : Accumulator) {channels arena channels' arena' output : List ℕ} {places places' : List (List ℕ)} {sum used : ℕ} → run a (held_memory channels places arena) output sum ≡ x
    → Using a (held_memory channels places arena) used → channels' ≡ channels → places' ≡ places → arena' ≡ arena
    → Ends x (sum ∷ a.active ∷ a.total_buffered_bits ∷ []) (held_memory channels' places' arena') output used
ended a e u c p m =
    rw (sym e, c, p, m)
    (record { said = refl; leaves = refl; writes = refl; goes_on = u })
