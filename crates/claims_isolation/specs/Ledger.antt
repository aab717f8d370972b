-- The ledger's exception, in document 01's words.
use Rattle.std.specs.Prelude.{◌≡◌, Bool, true, false, not, ◌&&◌}
use Rattle.types.specs.declared.RawBunchHeader.{RawBunchHeader}
use Rattle.tables.specs.Tables.{Found, none, found}
use Rattle.bunch_judging.specs.Held.{Held, Fragment}
use Rattle.bunch_judging.specs.Fates.{follows}

-- the channel holds an unfinished message, and the fragment continues it
abbrev pub valid : Found Held → RawBunchHeader → Bool
valid none h = false
valid (found m) h = not m.finished && follows m.sequence m.reliable h

-- "a valid non-initial final of zero bits whose header entered with the error flag"
pub record Exception (m : Found Held) (f : Fragment) : Type 0 where
  pub is_valid : valid m f.header ≡ true
  pub non_initial : f.header.b_partial_initial ≡ false
  pub final : f.header.b_partial_final ≡ true
  pub zero_bits : f.bits ≡ 0
  pub flagged : f.header.has_partial_error ≡ true
