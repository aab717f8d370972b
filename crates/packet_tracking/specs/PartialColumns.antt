-- The tracker's table in its lent columns: what they hold, and what the contracts of `inner` name of an edit.
use Rattle.std.specs.Prelude.{ℕ, ◌≡◌, Bool, List, map, length, take}
use Rattle.tables.specs.Columns.{laid, beside}
use Rattle.tables.specs.Tables.{Table, channels, values, entries}
use Rattle.packet_header.specs.declared.BunchFields.{BunchFields}
use Rattle.types.specs.Continuing.{Partial, sequence_of, reliable_of}
use Rattle.packet_tracking.specs.Partials.{Tracked, effected, in_flight, fragment, tracking}
use Rattle.packet_tracking.specs.declared.inner.partials.Tracked as T

abbrev pub partials_at : ℕ → List ℕ → List ℕ → List ℕ → Table Partial
partials_at live channels sequences reliables = entries (take live channels) (beside (take live sequences) (take live reliables))

-- what a table has in the two columns beside its channels
abbrev pub sequences_in_flight : Table Partial → List ℕ
sequences_in_flight t = map sequence_of (values t)

abbrev pub reliables_in_flight : Table Partial → List ℕ
reliables_in_flight t = map reliable_of (values t)

-- What the contracts of `inner` name: a fragment's tracking, its answer and its columns together.
pub record TrackedIn : Type 0 where
  pub error : Bool
  pub completed : Bool
  pub live : ℕ
  pub channels : List ℕ
  pub sequences : List ℕ
  pub reliables : List ℕ

abbrev pub tracked_in : T.Tracked → ℕ → List ℕ → List ℕ → List ℕ → TrackedIn
tracked_in r live channels sequences reliables =
    record {
      error = r.error;
      completed = r.completed;
      live = live;
      channels = channels;
      sequences = sequences;
      reliables = reliables;
    }

-- an answer, and a table put first in its columns
abbrev pub partials_laid : Tracked → Table Partial → List ℕ → List ℕ → List ℕ → TrackedIn
partials_laid k t channels' sequences' reliables' =
    record {
      error = k.error;
      completed = k.completed;
      live = length t;
      channels = laid (channels t) channels';
      sequences = laid (sequences_in_flight t) sequences';
      reliables = laid (reliables_in_flight t) reliables';
    }

-- a judgement's effect on the table that columns hold
abbrev pub effected_in : Tracked → BunchFields → ℕ → ℕ → List ℕ → List ℕ → List ℕ → TrackedIn
effected_in k f sequence live channels' sequences' reliables' =
    let t = partials_at live channels' sequences' reliables' in
    partials_laid k (effected k.effect f.ch_index (in_flight f sequence) t) channels' sequences' reliables'

-- a fragment that is tracked
abbrev pub fragment_to : ℕ → ℕ → BunchFields → ℕ → List ℕ → List ℕ → List ℕ → TrackedIn
fragment_to limit live f sequence channels' sequences' reliables' =
    let t = partials_at live channels' sequences' reliables' in
    effected_in (fragment limit f sequence t) f sequence live channels' sequences' reliables'

abbrev pub tracks_to : ℕ → ℕ → BunchFields → ℕ → Bool → List ℕ → List ℕ → List ℕ → TrackedIn
tracks_to limit live f sequence limited channels' sequences' reliables' =
    let t = partials_at live channels' sequences' reliables' in
    effected_in (tracking limit f sequence limited t) f sequence live channels' sequences' reliables'

-- columns after a table was put first in them, and how many of their places then count
pub record LaidPartials (t : Table Partial) (channels' sequences' reliables' : List ℕ) (live : ℕ)
    (channels'' sequences'' reliables'' : List ℕ) : Type 0 where
  pub live_is : live ≡ length t
  pub channels_are : channels'' ≡ laid (channels t) channels'
  pub sequences_are : sequences'' ≡ laid (sequences_in_flight t) sequences'
  pub reliables_are : reliables'' ≡ laid (reliables_in_flight t) reliables'
