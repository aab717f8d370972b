-- What a fragment meets, how it is weighed and what is answered, by value: what the contracts of `inner` name.
use Rattle.std.specs.Prelude.{ℕ, ◌+◌, ◌-◌, ◌^◌, ◌≤◌, ◌<◌, ◌≡◌, Bool, false, cond, List, [], eqb, leb, ltb, length, get_or, drop}
use Rattle.types.specs.Types.{longest_payload, most_buffered_bits}
use Rattle.types.specs.declared.RawBunchHeader.{RawBunchHeader}
use Rattle.tables.specs.Tables.{Slot}
use Rattle.std.specs.Prelude.{None, Ok, Err}
use Rattle.tables.specs.Tables.{found}
use Rattle.bunch_places.specs.Bytes.{bytes_of}
use Rattle.bunch_judging.specs.declared.PartialBunchResult.{PartialBunchResult}
use Rattle.bunch_judging.specs.Fates.{fate}
use Rattle.bunch_judging.specs.Results.{result_of}
use Rattle.bunch_judging.specs.Effects.{effect_of}
use Rattle.bunch_judging.specs.Standings.{held_of, standing_bits}
use Rattle.bunch_held.specs.declared.Accumulator.{Accumulator}
use Rattle.bunch_held.specs.Memory.{bits_in_place, held_at}
use Rattle.bunch_settling.specs.declared.inner.fragments.Weighed.{Weighed}
use Rattle.bunch_joining.specs.declared.inner.adding.Meeting.{Meeting}
use Rattle.bunch_judging.specs.Held.{fragment_of}

-- what the sums need, with a message in place p
abbrev pub MeetableHeld : Accumulator → List ℕ → ℕ → Type 0
MeetableHeld a p bits =
    (get_or p 3 0 < 2 ^ 32)
    × (bits_in_place p ≤ a.total_buffered_bits)
    × (a.total_buffered_bits ≤ most_buffered_bits)
    × (bits ≤ longest_payload)

abbrev pub Meetable : Accumulator → List (List ℕ) → Slot → ℕ → Type 0
Meetable a places (Ok i) bits = (i < length places) × MeetableHeld a (get_or places i []) bits
Meetable a places (Err i) bits = (a.total_buffered_bits ≤ most_buffered_bits) × (bits ≤ longest_payload)

-- the message of place p
pub record MeetsHeld (a : Accumulator) (p : List ℕ) (initial : Bool) (bits : ℕ) (r : Meeting) : Type 0 where
  pub standing_is : (bytes : List ℕ) → held_of r.standing (drop 4 p) bytes ≡ found (held_at p bytes)
  pub bits_are : standing_bits r.standing ≡ bits_in_place p
  pub held_is : r.held ≡ bits_in_place p
  pub full_is : r.full ≡ false
  pub over_is : r.over ≡ ltb a.max_buffered_bits (a.total_buffered_bits - bits_in_place p + (cond initial 0 (bits_in_place p) + bits))

pub record MeetsNothing (a : Accumulator) (bits : ℕ) (r : Meeting) : Type 0 where
  pub standing_is : r.standing ≡ None
  pub held_is : r.held ≡ 0
  pub full_is : r.full ≡ leb a.max_active a.active
  pub over_is : r.over ≡ ltb a.max_buffered_bits (a.total_buffered_bits + bits)

abbrev pub Meets : Accumulator → List (List ℕ) → Slot → Bool → ℕ → Meeting → Type 0
Meets a places (Ok i) initial bits r = MeetsHeld a (get_or places i []) initial bits r
Meets a places (Err i) initial bits r = MeetsNothing a bits r

-- the fate of what was met, with its effect, how much is shown, and the result
pub record Weighs (met : Meeting) (header : RawBunchHeader) (bits : ℕ) (w : Weighed) (r : PartialBunchResult) : Type 0 where
  pub fate_is : (words bytes : List ℕ) → w.fate ≡ fate met.full met.over (held_of met.standing words bytes) header bits
  pub effect_is : w.effect ≡ effect_of w.fate header.b_partial_initial (eqb bits 0)
  pub held_is : w.held ≡ cond w.effect.shows_held (bytes_of met.held) 0
  pub payload_is : w.payload ≡ cond w.effect.shows_payload bits 0
  pub result-is :
      (words bytes payload : List ℕ) → r ≡ result_of w.fate (held_of met.standing words bytes) (fragment_of header bits payload)
