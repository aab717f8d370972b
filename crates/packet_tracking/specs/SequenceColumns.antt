-- The sequences' table in its lent columns: what they hold, and what the contracts of `inner` name of an edit.
use Rattle.std.specs.Prelude.{ℕ, ◌≡◌, Bool, List, length, take}
use Rattle.tables.specs.Columns.{laid}
use Rattle.tables.specs.Tables.{Table, channels, values, entries}
use Rattle.packet_tracking.specs.Sequences.{Numbered}
use Rattle.packet_tracking.specs.declared.inner.sequences.Numbered as I

abbrev pub sequences_at : ℕ → List ℕ → List ℕ → Table ℕ
sequences_at live channels numbers = entries (take live channels) (take live numbers)

-- What the contracts of `inner` name: a table's numbering, its answer and its columns together.
pub record NumberedIn : Type 0 where
  pub sequence : ℕ
  pub limited : Bool
  pub live : ℕ
  pub channels : List ℕ
  pub numbers : List ℕ

abbrev pub numbered_in : I.Numbered → ℕ → List ℕ → List ℕ → NumberedIn
numbered_in r live channels numbers =
    record {
      sequence = r.sequence;
      limited = r.limited;
      live = live;
      channels = channels;
      numbers = numbers;
    }

abbrev pub sequences_laid : Numbered → List ℕ → List ℕ → NumberedIn
sequences_laid n channels' numbers' =
    record {
      sequence = n.sequence;
      limited = n.limited;
      live = length n.table;
      channels = laid (channels n.table) channels';
      numbers = laid (values n.table) numbers';
    }

-- columns after a table was put first in them, and how many of their places then count
pub record LaidSequences (t : Table ℕ) (channels' numbers' : List ℕ) (live : ℕ) (channels'' numbers'' : List ℕ) : Type 0 where
  pub live_is : live ≡ length t
  pub channels_are : channels'' ≡ laid (channels t) channels'
  pub numbers_are : numbers'' ≡ laid (values t) numbers'
