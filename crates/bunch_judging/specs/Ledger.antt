-- The words of two laws: the ledger's exception, and what an unfinished message's bits are.
use Rattle.std.specs.Prelude.{◌%◌, ◌≡◌, Bool, true, false, ◌||◌, eqb}
use Rattle.tables.specs.Tables.{Found, none, found}
use Rattle.bunch_judging.specs.declared.Fate.{Fate}
use Rattle.bunch_judging.specs.Held.{Held, Fragment}

-- what a fate shows of the "one exception": a fragment that isn't initial, of zero bits, whose message falls. That it is then "valid",
-- final and entered with the error flag follows for the fate that a fragment meets.
pub record Unreported (x : Fate) (f : Fragment) : Type 0 where
  pub falls : x ≡ Fate.Falls
  pub continues : f.header.b_partial_initial ≡ false
  pub empty : f.bits ≡ 0

-- "unfinished messages a multiple of 8 bits"
abbrev pub aligned : Found Held → Bool
aligned none = true
aligned (found m) = m.finished || eqb (m.message.bits % 8) 0
