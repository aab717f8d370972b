-- What the accumulator holds for a channel, and what it is handed.
use Rattle.std.specs.Prelude.{ℕ, Bool, List}
use Rattle.types.specs.declared.RawBunchHeader.{RawBunchHeader}
use Rattle.bunch_judging.specs.declared.PartialDiscardCause.{PartialDiscardCause}

-- the initial fragment's header as its words, and the bits so far, in bytes whose spare bits are zero
pub record Message : Type 0 where
  pub header : List ℕ
  pub bits : ℕ
  pub bytes : List ℕ

abbrev pub message_of : List ℕ → ℕ → List ℕ → Message
message_of header bits bytes = record { header = header; bits = bits; bytes = bytes }

-- with the last fragment's sequence as its word
pub record Held : Type 0 where
  pub sequence : ℕ
  pub reliable : Bool
  pub finished : Bool
  pub message : Message

-- a header, and the first `bits` bits of the payload's bytes
pub record Fragment : Type 0 where
  pub header : RawBunchHeader
  pub bits : ℕ
  pub payload : List ℕ

abbrev pub fragment_of : RawBunchHeader → ℕ → List ℕ → Fragment
fragment_of header bits payload = record { header = header; bits = bits; payload = payload }

pub record Displaced : Type 0 where
  pub message : Message
  pub cause : PartialDiscardCause

abbrev pub displaced_of : Message → PartialDiscardCause → Displaced
displaced_of message cause = record { message = message; cause = cause }
