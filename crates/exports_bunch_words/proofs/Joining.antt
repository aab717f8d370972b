-- Three parts put into zeros, the last first, and the words before them, are the parts joined.
use Prim.Native.Nat.{ℕ, ◌+◌}
use mathlib.Core.Path.{◌≡◌, refl}
use mathlib.Core.List.{List, ◌∷◌, ◌++◌, append-nil}
use lib.ListN.{length, take, drop, set, replicate}

-- what `put` leaves
abbrev pub put : ℕ → List ℕ → List ℕ → List ℕ
put at s d = take at d ++ (s ++ drop (at + length s) d)

pub joined_words : (s t a b n : ℕ) (r d e : List ℕ) {x y z : List ℕ} → length r ≡ 28 → length d ≡ 23 → length e ≡ 23
    → x ≡ put 56 e (replicate 79 0) → y ≡ put 33 d x → z ≡ put 4 r (set y 32 n)
    → set (set (set (set z 3 b) 2 a) 1 t) 0 s ≡ s ∷ t ∷ a ∷ b ∷ (r ++ (n ∷ (d ++ e)))
joined_words s t a b n r d e p q u x y z = rw (z, y, x, p, q, u, append-nil) refl
