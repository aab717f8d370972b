-- What the code's values say: a standing, with its header's words and its bytes, is what a channel holds.
use Rattle.std.specs.Prelude.{ℕ, ◌+◌, Bool, not, ◌||◌, cond, List, [], ◌∷◌, map, eqb, Option, Some, None}
use Rattle.tables.specs.Tables.{Found, none, found}
use Rattle.words.specs.Words.{header_from}
use Rattle.bunch_judging.specs.declared.Displaced as By-value
use Rattle.bunch_judging.specs.declared.Displacement.{Displacement}
use Rattle.bunch_judging.specs.declared.Fate.{Fate}
use Rattle.bunch_judging.specs.declared.Standing.{Standing}
use Rattle.bunch_judging.specs.Held.{message_of, Held, Displaced}

abbrev pub held_of : Option Standing → List ℕ → List ℕ → Found Held
held_of None words bytes = none
held_of (Some s) words bytes =
    found (record { sequence = s.sequence; reliable = s.reliable; finished = s.finished; message = message_of words s.bits bytes })

abbrev pub standing_bits : Option Standing → ℕ
standing_bits None = 0
standing_bits (Some s) = s.bits

-- the bits of all that a fate displaces, where `held` were held
unfoldable pub displaced_bits : Fate → Bool → ℕ → ℕ → ℕ
displaced_bits Fate.TurnedAway initial held bits = 0
displaced_bits (Fate.Breaks k) initial held bits = held
displaced_bits (Fate.Fails c) initial held bits = held
displaced_bits Fate.Joins initial held bits = cond initial held 0
displaced_bits Fate.Finishes initial held bits = cond initial held 0
displaced_bits Fate.Falls initial held bits = cond (initial || not (eqb bits 0)) (held + bits) 0

-- a displaced message without its bytes
abbrev pub value_of : Displaced → By-value.Displaced
value_of d = record { header = header_from d.message.header; bit_count = d.message.bits; cause = d.cause }

abbrev pub displaced_values : List Displaced → List By-value.Displaced
displaced_values ds = map value_of ds

abbrev pub of_displacement : Displacement → List By-value.Displaced
of_displacement Displacement.Nothing = []
of_displacement (Displacement.One d) = d ∷ []
of_displacement (Displacement.Two d e) = d ∷ e ∷ []
