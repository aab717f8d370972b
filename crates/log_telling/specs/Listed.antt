-- Document 01's "Writer and log": the text that one packet adds to the listing.
use Rattle.std.specs.Prelude.{ℕ, zero, suc, ◌+◌, Bool, true, false, cond, List, [], ◌++◌, ltb, ℤ}
use Rattle.std.specs.Int.{w32}
use Rattle.std.proofs.Common.{of_z}
use Rattle.types.specs.declared.RawBunchHeader.{RawBunchHeader}
use Rattle.packet_reading.specs.Packet.{ReaderTables, Outcome, bunch, end, malformed, Read, data_bits, next_bunch}
use Rattle.log_lines.specs.declared.BunchLine.{BunchLine}
use Rattle.log_lines.specs.Lines.{bunch_line, packet_line}
use Rattle.log_telling.specs.declared.inner.Sums.{Sums}

-- what a bunch's line shows of its header
abbrev pub line_of : RawBunchHeader → BunchLine
line_of h =
    record {
      packet_id = h.packet_id;
      ch_index = h.ch_index;
      ch_sequence = h.ch_sequence;
      b_reliable = h.b_reliable;
      b_partial = h.b_partial;
      b_partial_initial = h.b_partial_initial;
      b_partial_final = h.b_partial_final;
      payload_bit_count = h.payload_bit_count;
      payload_bit_offset = h.payload_bit_offset;
      is_partial_completed = h.is_partial_completed;
      has_partial_error = h.has_partial_error;
      has_channel_limit_error = h.has_channel_limit_error;
    }

-- "Per bunch: B, …"; the end and malformed have no line of their own
abbrev pub outcome_text : Outcome → List ℕ
outcome_text (bunch h w) = bunch_line (line_of h)
outcome_text end = []
outcome_text malformed = []

-- "Until data ends"
abbrev pub goes_on : Outcome → Bool
goes_on (bunch h w) = true
goes_on end = false
goes_on malformed = false

abbrev pub sums : ℕ → ℕ → ℕ → ℕ → Sums
sums bunches malformed' partials limits =
    record {
      bunches = bunches;
      malformed_packets = malformed';
      partial_errors = partials;
      channel_limits = limits;
    }

-- "by how much the Rust's counts rise"
abbrev pub raised : Sums → ℕ → ℕ → ℕ → ℕ → Sums
raised s bunches malformed' partials limits =
    sums (s.bunches + bunches) (s.malformed_packets + malformed') (s.partial_errors + partials) (s.channel_limits + limits)

abbrev pub raised_by : Sums → Read → Sums
raised_by s x = raised s x.bunches x.malformed_packets x.partial_errors x.channel_limits

-- a packet's text, and the reader's tables after it
pub record ListedPacket : Type 0 where
  pub text : List ℕ
  pub channels : ReaderTables

abbrev pub with_line : List ℕ → ListedPacket → ListedPacket
with_line line l = record { text = line ++ l.text; channels = l.channels }

-- "Per packet: P, id, bunches, malformed 0 or 1, partial errors, limit errors."
abbrev pub closing : ℤ → Sums → List ℕ
closing id s =
    packet_line
    (record {
      packet_id = id;
      bunches = s.bunches;
      is_malformed = ltb 0 s.malformed_packets;
      partial_errors = s.partial_errors;
      channel_limits = s.channel_limits;
    })

abbrev pub closed : ℤ → Sums → ReaderTables → ListedPacket
closed id s t = record { text = closing id s; channels = t }

module _ (limit : ℕ) (d : List ℕ) (id : ℤ) where
  -- the bunch at a cursor
  abbrev pub read_at : ℕ → ReaderTables → Read
  read_at at t = next_bunch limit d (of_z w32 id) at t

  -- A read's line and then the next read's; after the last one, the packet's line. The first argument only bounds the
  -- recursion: a bunch takes at least a bit.
  unfoldable pub listed_from : ℕ → ℕ → Sums → ReaderTables → ListedPacket
  listed_from zero at s t = closed id s t
  listed_from (suc n) at s t =
      let x = read_at at t in
      with_line (outcome_text x.outcome)
      (cond (goes_on x.outcome) (listed_from n x.next (raised_by s x) x.channels) (closed id (raised_by s x) x.channels))

  abbrev pub listed_packet : ReaderTables → ListedPacket
  listed_packet t = listed_from (suc (data_bits d)) 0 (sums 0 0 0 0) t
