-- What a table means: each channel with what it has, by ascending channel. The Rust's hash maps, in an order.
use Rattle.std.specs.Prelude.{cond, List, [], ◌∷◌, map, ℕ, suc, eqb, ltb, Result, Ok, Err}
use Rattle.tables.specs.Columns.{beside}

abbrev pub Table : Type 0 → Type 0
Table A = List (ℕ × A)

pub data Found (A : Type 0) : Type 0 where
  none : Found A
  found : A → Found A

module _ {A : Type 0} where
  -- the Rust's `get`
  unfoldable pub get : ℕ → Table A → Found A
  get c [] = none
  get c (e ∷ t) = cond (eqb c e.0) (found e.1) (get c t)

  -- the Rust's `remove`
  unfoldable pub without : ℕ → Table A → Table A
  without c [] = []
  without c (e ∷ t) = cond (eqb c e.0) (without c t) (e ∷ without c t)

  -- in its place, of a channel that is not there
  unfoldable pub added_channel : ℕ → A → Table A → Table A
  added_channel c v [] = (c, v) ∷ []
  added_channel c v (e ∷ t) = cond (ltb e.0 c) (e ∷ added_channel c v t) ((c, v) ∷ (e ∷ t))

  -- the Rust's `insert`, which replaces what the channel has
  unfoldable pub put : ℕ → A → Table A → Table A
  put c v t = added_channel c v (without c t)

  abbrev pub channels : Table A → List ℕ
  channels t = map (λ (e : ℕ × A). e.0) t

  abbrev pub values : Table A → List A
  values t = map (λ (e : ℕ × A). e.1) t

  -- the table that a column of channels and a column of values hold
  abbrev pub entries : List ℕ → List A → Table A
  entries cs vs = beside cs vs

-- as a binary search tells it: the place where a channel stands, or else where it would go
abbrev pub Slot : Type 0
Slot = Result ℕ ℕ

-- one place further
unfoldable pub further : Slot → Slot
further (Ok i) = Ok (suc i)
further (Err i) = Err (suc i)

-- where a channel stands in an ascending column, or would go
unfoldable pub slot_of : ℕ → List ℕ → Slot
slot_of c [] = Err 0
slot_of c (x ∷ l) = cond (ltb x c) (further (slot_of c l)) (cond (eqb x c) (Ok 0) (Err 0))
