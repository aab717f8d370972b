-- What the program's functions hand on: a part of the log in a buffer, and a record in it.
use Rattle.std.specs.Prelude.{◌≡◌, ℕ, ◌+◌, ◌-◌, ◌%◌, ◌^◌, ◌≤◌, List, length, Option, Some, None}
use Rattle.std.specs.Result.{result_unwrap_or}
use Rattle.types.specs.Types.{longest_packet}
use Rattle.packet_log.specs.declared.Record.{Record}
use Rattle.packet_log.specs.Log.{Entry}
use Rattle.listing.specs.declared.inner.input.Part.{Part}
use Rattle.listing.specs.declared.inner.input.Refilled.{Refilled}
use Rattle.listing.specs.Calls.{bytes_moved}

pub record InBuffer (buffer : List ℕ) (part : Part) : Type 0 where
  pub inside : part.held ≤ length buffer

-- the part begins so many bytes later, and has in addition what the read brought
pub record RefilledFrom (part : Part) (at : ℕ) (r : Refilled) : Type 0 where
  pub begins : r.part.before ≡ (part.before + at) % 2 ^ 64
  pub holds : r.part.held ≡ (part.held - at) + bytes_moved r.moved

-- the record that stands at a place, if it is whole
abbrev pub whole_at : Entry → Option Record
whole_at e = result_unwrap_or e None

-- a packet's bytes
pub record Short (found : Option Record) : Type 0 where
  pub short : {r : Record} → found ≡ Some r → r.next ≤ r.start + longest_packet
