-- Demand 3: no channel's calls change another channel's answers, bytes or held message. The claim stands last.
use Rattle.std.specs.Prelude.{ℕ, ◌≡◌, true, cond, List, [], ◌∷◌, ◌++◌, eqb}
use Rattle.bunch_held.specs.Memory.{HeldMemory}
use Rattle.bunch_held.specs.Sound.{fit}
use Rattle.claims_isolation.specs.Runs.{Call, Lent, empty_lent, held_on, said, lent_after, calls_of, said_of, WithinLimits}

-- "every shuffle that keeps each list's order": two orders of the same calls, in which each channel's stand in the same order
abbrev pub SameLists : List Call → List Call → Type 0
SameLists xs ys = (c : ℕ) → calls_of c xs ≡ calls_of c ys

-- "running channel after channel": all calls on one channel, and then those on the others likewise
unfoldable pub others : ℕ → List Call → List Call
others c [] = []
others c (x ∷ xs) = cond (eqb c x.channel) (others c xs) (x ∷ others c xs)

unfoldable pub in_turn : List ℕ → List Call → List Call
in_turn [] xs = []
in_turn (c ∷ cs) xs = calls_of c xs ++ in_turn cs (others c xs)

-- "gives each call the same answer and output bytes, and each channel the same held message"
abbrev pub Agree : Lent → List Call → List Call → Type 0
Agree l xs ys = (c : ℕ) → (said_of c (said l xs) ≡ said_of c (said l ys)) × (held_on c (lent_after l xs) ≡ held_on c (lent_after l ys))

-- "then every shuffle … as running channel after channel"
abbrev pub AsInTurn : Type 0
AsInTurn =
    (active buffered : ℕ) (m : HeldMemory) → fit active buffered m ≡ true
    → (xs : List Call) (fits : WithinLimits active buffered xs) → Agree (empty_lent active buffered m) xs (in_turn fits.channels xs)

-- and so any two of them give the same: running channel after channel is one
abbrev pub Isolation : Type 0
Isolation =
    (active buffered : ℕ) (m : HeldMemory) → fit active buffered m ≡ true
    → (xs ys : List Call) → WithinLimits active buffered xs → SameLists xs ys → Agree (empty_lent active buffered m) xs ys
