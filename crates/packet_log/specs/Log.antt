-- Document 01's "Writer and log": what the bytes of a packet log say.
use Rattle.std.specs.Prelude.{ℕ, zero, suc, ◌+◌, ◌*◌, ◌-◌, cond, List, [], ◌∷◌, eqb, leb, ℤ, length, get_or, take, drop}
use Rattle.std.specs.Prelude.{Option, Some, None, Result, Ok, Err}
use Rattle.bitio_bits.specs.Floats.{signed}
use Rattle.packet_log.specs.declared.VersionError.{VersionError}
use Rattle.packet_log.specs.declared.Record.{Record}
use Rattle.packet_log.specs.declared.Cut.{Cut}

-- "a version byte 1"; "Another version: V and the byte."; "empty input gives X 0"
unfoldable pub version_of : List ℕ → Result Unit VersionError
version_of [] = Err VersionError.Missing
version_of (b ∷ bs) = cond (eqb b 1) (Ok tt) (Err (VersionError.Other b))

-- "a 2-byte length, a 4-byte signed packet id, both big-endian"
abbrev pub length_at : List ℕ → ℕ → ℕ
length_at d i = 256 * get_or d i 0 + get_or d (i + 1) 0

abbrev pub id_at : List ℕ → ℕ → ℤ
id_at d i = signed (16777216 * get_or d (i + 2) 0 + 65536 * get_or d (i + 3) 0 + 256 * get_or d (i + 4) 0 + get_or d (i + 5) 0)

abbrev pub Entry : Type 0
Entry = Result (Option Record) Cut

abbrev pub whole_record : List ℕ → ℕ → Record
whole_record d i = record { id = id_at d i; start = i + 6; length = length_at d i; next = i + 6 + length_at d i }

-- The record at a place is whole where its six bytes and its packet are there. At the log's end there is none; at any other place
-- it is cut: "A cut record: X and the byte offset of its start".
unfoldable pub entry_at : List ℕ → ℕ → Entry
entry_at d i =
    cond (eqb i (length d)) (Ok None)
    (cond (leb (i + 6 + length_at d i) (length d)) (Ok (Some (whole_record d i))) (Err (record { at = i })))

-- "for each packet …": a packet's id and bytes
pub record Packet : Type 0 where
  pub id : ℤ
  pub bytes : List ℕ

-- how a listing ends: "V and the byte", "X and the byte offset", or with the log
pub data Ending : Type 0 where
  whole : Ending
  other_version : ℕ → Ending
  cut : ℕ → Ending

-- what a log holds: its packets in order, and how it ends
pub record Log : Type 0 where
  pub packets : List Packet
  pub ending : Ending

abbrev pub ends : Ending → Log
ends e = record { packets = []; ending = e }

abbrev pub log_on : List ℕ → Entry → (ℕ → Log) → Log
log_on d (Ok None) on = ends whole
log_on d (Err c) on = ends (cut c.at)
log_on d (Ok (Some r)) on =
    record { packets = record { id = r.id; bytes = take r.length (drop r.start d) } ∷ (on r.next).packets; ending = (on r.next).ending }

-- The first argument only bounds the recursion: a record takes at least six bytes.
unfoldable pub log_from : ℕ → List ℕ → ℕ → Log
log_from zero d i = ends whole
log_from (suc n) d i = log_on d (entry_at d i) (log_from n d)

-- the log from a place on
abbrev pub log_at : List ℕ → ℕ → Log
log_at d i = log_from (suc (length d - i)) d i

abbrev pub opened_log : Result Unit VersionError → Log → Log
opened_log (Ok u) l = l
opened_log (Err (VersionError.Other b)) l = ends (other_version b)
opened_log (Err VersionError.Missing) l = ends (cut 0)

-- "Log: a version byte 1, then for each packet …" "V and X end the listing."
abbrev pub log_of : List ℕ → Log
log_of d = opened_log (version_of d) (log_at d 1)
