-- The steps of a reading call: what the contracts of `inner` name. A reader of the public calls can pass over it.
use Rattle.std.specs.Prelude.{ℕ, ◌+◌, Bool}
use mir.Val.{bool_byte}
use Rattle.bitio_window.specs.Parse.{value}
use Rattle.packet_header.specs.declared.BunchFields.{BunchFields}
use Rattle.packet_reading.specs.Packet.{Outcome, bunch, header, payload_window, whole, compared}
use Rattle.packet_tracking.specs.Sequences.{Numbered, numbered}
use Rattle.packet_tracking.specs.Partials.{tracking}
use Rattle.packet_reading.specs.Memory.{ReaderMemory, tables_of}
use Rattle.packet_reading.specs.Answers.{ReadReply, read_reply}

-- a bunch with so many live places of each table, and the memory as given
abbrev pub bunch_handed_out : BunchFields → ℕ → ℕ → ℕ → Bool → Bool → Bool → ℕ → ℕ → ReaderMemory → ReadReply
bunch_handed_out f id at sequence limited error completed s p m =
    record {
      answer = value (bunch (header f id at sequence limited error completed) (payload_window at f.payload_bit_count));
      next = at + f.payload_bit_count;
      bunches = 1;
      malformed_packets = 0;
      partial_errors = bool_byte error;
      channel_limits = bool_byte limited;
      live_sequences = s;
      live_partials = p;
      memory = m;
    }

-- the end or malformed, the memory as given
abbrev pub stopping : Outcome → ℕ → ℕ → Bool → ℕ → ℕ → ReaderMemory → ReadReply
stopping o next malformed limited s p m =
    record {
      answer = value o;
      next = next;
      bunches = 0;
      malformed_packets = malformed;
      partial_errors = 0;
      channel_limits = bool_byte limited;
      live_sequences = s;
      live_partials = p;
      memory = m;
    }

-- from the sequence on, which is in the table
unfoldable pub settles : ℕ → ℕ → ℕ → BunchFields → ℕ → ℕ → ℕ → Bool → ReaderMemory → ReadReply
settles limit s p f id at sequence limited m =
    let t = tables_of s p m in
    let n : Numbered = record { sequence = sequence; limited = limited; table = t.sequences } in
    read_reply (whole f id at n (tracking limit f sequence limited t.partials) t.partials) m

-- from the header on
unfoldable pub finishes : ℕ → ℕ → ℕ → ℕ → BunchFields → ℕ → ℕ → ReaderMemory → ReadReply
finishes limit s p end f id at m =
    let t = tables_of s p m in
    read_reply (compared end f id at limit (numbered limit id f t.sequences) t.partials) m
