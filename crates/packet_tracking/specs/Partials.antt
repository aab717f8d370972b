-- The partial tracker: `track_partial_bunch` of vrf-net/src/packet.rs, in its order.
use Rattle.std.specs.Prelude.{ℕ, Bool, true, false, not, ◌&&◌, cond, leb, length}
use mir.Val.{bool_byte}
use Rattle.tables.specs.Tables.{Table, Found, none, found, get, put, without}
use Rattle.packet_header.specs.declared.BunchFields.{BunchFields}
use Rattle.types.specs.Continuing.{Partial, continues}

-- what becomes of the channel's state
pub data Effect : Type 0 where
  stays : Effect
  puts : Effect
  removed : Effect

pub record Tracked : Type 0 where
  pub effect : Effect
  pub error : Bool
  pub completed : Bool

abbrev pub tracked : Effect → Bool → Bool → Tracked
tracked e error completed = record { effect = e; error = error; completed = completed }

-- An initial that is also final is whole, and nothing stays in flight; over a message in flight either is an error. One that is
-- not final needs room in the table.
abbrev pub initial : Bool → Bool → Found Partial → Tracked
initial true full none = tracked removed false true
initial true full (found p) = tracked removed true false
initial false true none = tracked stays true false
initial false false none = tracked puts false false
initial false full (found p) = tracked puts true false

-- A continuing fragment that has no initial leaves all as it is; one that doesn't follow ends the message.
abbrev pub continued_to : Bool → Bool → Tracked
continued_to false final = tracked removed true false
continued_to true true = tracked removed false true
continued_to true false = tracked puts false false

abbrev pub continuing : Bool → Bool → ℕ → Found Partial → Tracked
continuing final reliable sequence none = tracked stays true false
continuing final reliable sequence (found p) = continued_to (continues p reliable sequence) final

unfoldable pub judged : BunchFields → ℕ → Bool → Found Partial → Tracked
judged f sequence full p =
    cond f.b_partial_initial (initial f.b_partial_final full p) (continuing f.b_partial_final f.b_reliable sequence p)

-- the state with which a fragment leaves its channel
abbrev pub in_flight : BunchFields → ℕ → Partial
in_flight f sequence = (sequence, bool_byte f.b_reliable)

abbrev pub effected : Effect → ℕ → Partial → Table Partial → Table Partial
effected stays c p t = t
effected puts c p t = put c p t
effected removed c p t = without c t

abbrev pub fragment : ℕ → BunchFields → ℕ → Table Partial → Tracked
fragment limit f sequence t = judged f sequence (leb limit (length t)) (get f.ch_index t)

-- "Tracking follows track_partial_bunch, skipped under the limit flag."
unfoldable pub tracking : ℕ → BunchFields → ℕ → Bool → Table Partial → Tracked
tracking limit f sequence limited t =
    cond (f.b_partial && not limited) (fragment limit f sequence t) (tracked stays false false)
