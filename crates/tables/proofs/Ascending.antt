-- Ascending lists: a turn of the pass over one, and what the pass shows.
use mathlib.Core.Path.{◌≡◌, refl, sym, ap, ◌∙◌}
use mathlib.Core.Bool.{Bool, true, ◌&&◌, and-true, and_assoc}
use mathlib.Core.List.{List, [], ◌∷◌}
use Prim.Native.Nat.{ℕ, zero, suc, ◌+◌, ◌≤◌, ◌<◌}
use native.Mathlib.Nat.{not-suc-le-zero, le_of_suc-le-suc}
use native.Mathlib.Numerals.{add-one}
use native.Mathlib.Omega.{arith}
use lib.Dec.{ltb}
use lib.ListN.{length, get_or, take}
use lib.Seq.{take_all}
use borrow.Author.Tests.{ltb-true, lt-ltb}
pub use Rattle.std.proofs.lemmas.Bool.{and_parts as both}
use Rattle.tables.specs.Columns.{above, ascending}
use Rattle.tables.specs.Search.{Rising}

above_turn : (x i : ℕ) (l : List ℕ) → i < length l → above x (take (suc i) l) ≡ (above x (take i l) && ltb (get_or (x ∷ l) i 0) (get_or l i 0))
unfolding above
above_turn x i [] h = absurd (not-suc-le-zero h)
above_turn x zero (y ∷ l) h = and-true (ltb x y)
above_turn x (suc i) (y ∷ l) h =
    ap (λ (b : Bool). ltb x y && b) (above_turn y i l (le_of_suc-le-suc h)) ∙ sym (and_assoc (ltb x y) (above y (take i l)) (ltb (get_or (y ∷ l) i 0) (get_or l i 0)))

pub turn : (i j : ℕ) (l : List ℕ) → j ≡ suc i → j < length l → (ascending (take j l) && ltb (get_or l i 0) (get_or l j 0)) ≡ ascending (take (j + 1) l)
unfolding ascending
turn i j [] e h = absurd (not-suc-le-zero h)
turn i j (x ∷ l) e h = rw (add-one, e) (sym (above_turn x i l (omega arith)))

pub begins : (l : List ℕ) → true ≡ ascending (take 1 l)
unfolding ascending above
begins [] = refl
begins (x ∷ l) = refl

-- where there is no channel one is passed all the same
pub ends : (i n : ℕ) (l : List ℕ) → 1 ≤ i → i ≤ n + 1 → n ≤ i → (1 ≤ n → i ≤ n) → ascending (take i l) ≡ ascending (take n l)
unfolding ascending
ends i zero l low high past end = let z : i ≡ 1 = omega arith in rw z (sym (begins l))
ends i (suc n) l low high past end = let z : i ≡ suc n = omega (arith, end (omega arith)) in rw z refl

pub above_rest : (x y : ℕ) (l : List ℕ) → above x (y ∷ l) ≡ true → (x < y) × (above y l ≡ true)
unfolding above
above_rest x y l e = let p = both (ltb x y) (above y l) e in (ltb-true x y p.0, p.1)

pub above_less : (x y : ℕ) (l : List ℕ) → x ≤ y → above y l ≡ true → above x l ≡ true
unfolding above
above_less x y [] h e = refl
above_less x y (z ∷ l) h e = let p = above_rest y z l e in rw (lt-ltb x z (omega (arith, p.0))) p.1

pub above_all : (x i n : ℕ) (l : List ℕ) → above x (take n l) ≡ true → n ≤ length l → i < n → x < get_or l i 0
above_all x i zero l e g h = absurd (not-suc-le-zero h)
above_all x i (suc n) [] e g h = absurd (not-suc-le-zero g)
above_all x zero (suc n) (y ∷ l) e g h = (above_rest x y (take n l) e).0
above_all x (suc i) (suc n) (y ∷ l) e g h =
    let p = above_rest x y (take n l) e in
    above_all x i n l (above_less x y (take n l) (omega (arith, p.0)) p.1) (le_of_suc-le-suc g) (le_of_suc-le-suc h)

pub ascending_rest : (x : ℕ) (l : List ℕ) → above x l ≡ true → ascending l ≡ true
unfolding ascending
ascending_rest x [] e = refl
ascending_rest x (y ∷ l) e = (above_rest x y l e).1

pub ascending_rises : (n : ℕ) (l : List ℕ) → ascending (take n l) ≡ true → n ≤ length l → (i j : ℕ) → i < j → j < n → get_or l i 0 < get_or l j 0
unfolding ascending
ascending_rises zero l e g i j f h = absurd (not-suc-le-zero h)
ascending_rises (suc n) [] e g i j f h = absurd (not-suc-le-zero g)
ascending_rises (suc n) (x ∷ l) e g i zero f h = absurd (not-suc-le-zero f)
ascending_rises (suc n) (x ∷ l) e g zero (suc j) f h = above_all x j n l e (le_of_suc-le-suc g) (le_of_suc-le-suc h)
ascending_rises (suc n) (x ∷ l) e g (suc i) (suc j) f h =
    ascending_rises n l (ascending_rest x (take n l) e) (le_of_suc-le-suc g) i j (le_of_suc-le-suc f) (le_of_suc-le-suc h)

pub rising : (l : List ℕ) → length l ≤ 4096 → ascending l ≡ true → Rising l
rising l g e = record { few = g; rises = ascending_rises (length l) l (rw (take_all (length l) l (omega arith)) e) (omega arith) }
