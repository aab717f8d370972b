-- The sequence of a bunch. Packet ids are held as words, like sequences.
use Rattle.std.specs.Prelude.{ℕ, Bool, true, false, cond, eqb, leb, length}
use Rattle.tables.specs.Tables.{Table, Found, none, found, get, put}
use Rattle.packet_header.specs.declared.BunchFields.{BunchFields}
use Rattle.types.specs.Continuing.{last_sequence, following}

pub record Numbered : Type 0 where
  pub sequence : ℕ
  pub limited : Bool
  pub table : Table ℕ

abbrev pub limit_flagged : ℕ → Table ℕ → Numbered
limit_flagged word t = record { sequence = word; limited = true; table = t }

abbrev pub sequence_stored : ℕ → ℕ → Table ℕ → Numbered
sequence_stored c word t = record { sequence = word; limited = false; table = put c word t }

-- "1 on a new channel, else previous + 1. After 2,147,483,647 the channel-limit flag is set and the previous number stays. A new
-- reliable channel in a full table (limit 0 to 4,096) gets the flag and isn't stored."
abbrev pub next_sequence : ℕ → ℕ → Table ℕ → Found ℕ → Numbered
next_sequence limit c t none = cond (leb limit (length t)) (limit_flagged 1 t) (sequence_stored c 1 t)
next_sequence limit c t (found previous) =
    cond (eqb previous last_sequence) (limit_flagged previous t) (sequence_stored c (following previous) t)

unfoldable pub reliably : ℕ → ℕ → Table ℕ → Numbered
reliably limit c t = next_sequence limit c t (get c t)

-- "Unreliable partial: the packet id. Otherwise 0."
unfoldable pub unreliable : BunchFields → ℕ → ℕ
unreliable f id = cond f.b_partial id 0

unfoldable pub numbered : ℕ → ℕ → BunchFields → Table ℕ → Numbered
numbered limit id f t =
    cond f.b_reliable (reliably limit f.ch_index t) (record { sequence = unreliable f id; limited = false; table = t })
