-- Document 01's "Writer and log": the listing's lines as bytes.
use Rattle.std.specs.Prelude.{ℕ, Bool, cond, List, [], ◌∷◌, ◌++◌}
use Rattle.log_lines.specs.declared.BunchLine.{BunchLine}
use Rattle.log_lines.specs.declared.PacketLine.{PacketLine}
use Rattle.log_lines.specs.Decimal.{decimal, decimal_signed}

-- "single spaces, a newline after each line"
abbrev pub spaced_fields : List (List ℕ) → List ℕ
spaced_fields [] = 10 ∷ []
spaced_fields (t ∷ ts) = (32 ∷ t) ++ spaced_fields ts

abbrev pub line : ℕ → List (List ℕ) → List ℕ
line letter ts = letter ∷ spaced_fields ts

-- a letter "or a dash"
abbrev pub mark : Bool → ℕ → ℕ
mark on letter = cond on letter 45

-- "R P I F or dashes"
abbrev pub flags : BunchLine → List ℕ
flags b = mark b.b_reliable 82 ∷ mark b.b_partial 80 ∷ mark b.b_partial_initial 73 ∷ mark b.b_partial_final 70 ∷ []

-- "K completed, E partial error, L limit, or a dash"
abbrev pub state : BunchLine → ℕ
state b = cond b.has_channel_limit_error 76 (cond b.has_partial_error 69 (mark b.is_partial_completed 75))

-- "0 or 1"
abbrev pub zero_or_one : Bool → ℕ
zero_or_one on = cond on 49 48

-- "Per bunch: B, packet id, channel, sequence, R P I F or dashes, payload count, offset, and K completed, E partial error, L
-- limit, or a dash."
unfoldable pub bunch_line : BunchLine → List ℕ
bunch_line b =
    line 66
    (decimal_signed b.packet_id
    ∷ decimal b.ch_index
    ∷ decimal_signed b.ch_sequence
    ∷ flags b
    ∷ decimal b.payload_bit_count
    ∷ decimal b.payload_bit_offset
    ∷ (state b ∷ [])
    ∷ [])

-- "Per packet: P, id, bunches, malformed 0 or 1, partial errors, limit errors."
unfoldable pub packet_line : PacketLine → List ℕ
packet_line p =
    line 80
    (decimal_signed p.packet_id
    ∷ decimal p.bunches
    ∷ (zero_or_one p.is_malformed ∷ [])
    ∷ decimal p.partial_errors
    ∷ decimal p.channel_limits
    ∷ [])

-- "Another version: V and the byte."
abbrev pub version_line : ℕ → List ℕ
version_line b = line 86 (decimal b ∷ [])

-- "A cut record: X and the byte offset of its start"
abbrev pub cut_line : ℕ → List ℕ
cut_line i = line 88 (decimal i ∷ [])

-- No line is longer: what the contracts of `inner` show.
abbrev pub line_room : ℕ
line_room = 96
