-- Document 01's desk checks that are marked to be proved, one row each: what the definitions give, and what the document says.
use Rattle.std.specs.Prelude.{ℕ, ◌≡◌, true, false, pos}
use mathlib.Core.List.{List, [], ◌∷◌, ◌++◌, flatten}
use Rattle.bitio_window.specs.declared.Window.{Window}
use Rattle.bitio_window.specs.Parse.{Answer, got, refused, Result, value, refusal, Parse}
use Rattle.bitio_window.specs.Numbers.{read_packed, read_serialized}
use Rattle.bitio_window.specs.Windows.{front}
use Rattle.packet_reading.specs.Packet.{Outcome, bunch, end, malformed}
use Rattle.packet_reading.specs.Memory.{reader_of, reader_memory}
use Rattle.packet.specs.Answers.{read_bunch}
use Rattle.field_walking.specs.Walks.{Stop, ended, tail, abandoned, Walked}
use Rattle.field.specs.Walks.{parse_rep_layout, parse_class_net_cache}

-- values and how many bits were read, after a 0; or the refusal's number, what it returns, and where the reader then stands
abbrev pub shown_read : {A : Type 0} → (A → List ℕ) → Answer A → List ℕ
shown_read f (got a w) = 0 ∷ (f a ++ (w.position.0 ∷ []))
shown_read f (refused r w) = r.number ∷ (r.returns ++ (w.position.0 ∷ []))

abbrev pub number : ℕ → List ℕ
number n = n ∷ []

-- a read of the first n bits of some bytes
abbrev pub read_of : ℕ → List ℕ → Parse ℕ → List ℕ
read_of n bytes p = shown_read number (p bytes (front n))

-- 0 and nothing left, 1 and a tail, 2 and what was abandoned
abbrev pub stop_numbers : Stop → List ℕ
stop_numbers ended = 0 ∷ 0 ∷ []
stop_numbers (tail n) = 1 ∷ n ∷ []
stop_numbers (abandoned n) = 2 ∷ n ∷ []

-- a walk over the first n bits of some bytes, with room for one record: where it stopped, how many records, and the list
abbrev pub walking : ℕ → List ℕ → (List ℕ → List (List ℕ) → Window → Walked) → List ℕ
walking n bytes p =
    let x = p bytes ((7 ∷ 7 ∷ 7 ∷ 7 ∷ []) ∷ []) (front n) in
    shown_read stop_numbers x.answer ++ (x.count ∷ flatten x.places)

abbrev pub outcome_number : Outcome → ℕ
outcome_number (bunch h w) = 0
outcome_number end = 1
outcome_number malformed = 2

-- after a 0: 0 a bunch, 1 the end, 2 malformed; or the refusal's number, and what it returns
abbrev pub shown_outcome : Result Outcome → List ℕ
shown_outcome (value o) = 0 ∷ outcome_number o ∷ []
shown_outcome (refusal r) = r.number ∷ r.returns

-- a packet read from its first bit on, by a reader as opening leaves it, with a place for one channel: what was answered, the next
-- cursor, and how many bunches and malformed packets
abbrev pub packet_read : List ℕ → List ℕ
packet_read packet =
    let x = read_bunch packet (pos 0) 0 (reader_of 1 0 0) (reader_memory (7 ∷ []) (7 ∷ []) (7 ∷ []) (7 ∷ []) (7 ∷ [])) in
    shown_outcome x.answer ++ (x.next ∷ x.bunches ∷ x.malformed_packets ∷ [])

pub record Check : Type 0 where
  pub gives : List ℕ
  pub says : List ℕ

abbrev pub check : List ℕ → List ℕ → Check
check g s = record { gives = g; says = s }

abbrev pub desk_checks : List Check
desk_checks =
    -- "Packed 06: 3. 01 00: 0 in 16 bits. Fifth byte 20: refusal 3. 21: refusal 2."
    check (read_of 8 (0x06 ∷ []) read_packed) (0 ∷ 3 ∷ 8 ∷ [])
    ∷ check (read_of 16 (0x01 ∷ 0x00 ∷ []) read_packed) (0 ∷ 0 ∷ 16 ∷ [])
    ∷ check (read_of 40 (0x01 ∷ 0x01 ∷ 0x01 ∷ 0x01 ∷ 0x20 ∷ []) read_packed) (3 ∷ 0 ∷ 40 ∷ [])
    ∷ check (read_of 40 (0x01 ∷ 0x01 ∷ 0x01 ∷ 0x01 ∷ 0x21 ∷ []) read_packed) (2 ∷ 0 ∷ 40 ∷ [])
    -- "Maximum 1, empty window: 0. Maximum 3, bits 0,1: 2; bit 1: 1. Maximum 0: refusal 4."
    ∷ check (read_of 0 [] (read_serialized 1)) (0 ∷ 0 ∷ 0 ∷ [])
    ∷ check (read_of 2 (0b10 ∷ []) (read_serialized 3)) (0 ∷ 2 ∷ 2 ∷ [])
    ∷ check (read_of 1 (0b1 ∷ []) (read_serialized 3)) (0 ∷ 1 ∷ 1 ∷ [])
    ∷ check (read_of 8 (0xff ∷ []) (read_serialized 0)) (4 ∷ 0 ∷ 0 ∷ [])
    -- "Nine zero bits as RepLayout: no record, nothing left. Eight as class net cache, count 2: 8 abandoned. Nine, count 1: one
    -- empty record."
    ∷ check (walking 9 (0 ∷ 0 ∷ []) (parse_rep_layout false)) (0 ∷ 0 ∷ 0 ∷ 9 ∷ 0 ∷ 7 ∷ 7 ∷ 7 ∷ 7 ∷ [])
    ∷ check (walking 9 (0 ∷ 0 ∷ []) (parse_rep_layout true)) (0 ∷ 0 ∷ 0 ∷ 9 ∷ 0 ∷ 7 ∷ 7 ∷ 7 ∷ 7 ∷ [])
    ∷ check (walking 8 (0 ∷ []) (parse_class_net_cache 2)) (0 ∷ 2 ∷ 8 ∷ 8 ∷ 0 ∷ 7 ∷ 7 ∷ 7 ∷ 7 ∷ [])
    ∷ check (walking 9 (0 ∷ 0 ∷ []) (parse_class_net_cache 1)) (0 ∷ 0 ∷ 0 ∷ 9 ∷ 1 ∷ 0 ∷ 0 ∷ 9 ∷ 9 ∷ [])
    -- "Packet 01: no bunches, sound. Packet 00: malformed."
    ∷ check (packet_read (0x01 ∷ [])) (0 ∷ 1 ∷ 0 ∷ 0 ∷ 0 ∷ [])
    ∷ check (packet_read (0x00 ∷ [])) (0 ∷ 2 ∷ 0 ∷ 0 ∷ 1 ∷ [])
    ∷ []

-- the claim: each row gives what the document says
abbrev pub Hold : List Check → Type 0
Hold [] = Unit
Hold (c ∷ cs) = (c.gives ≡ c.says) × Hold cs
