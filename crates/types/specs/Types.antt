-- The named numbers of document 01, and what a close reason's number is.
use Rattle.std.specs.Prelude.{ℕ, cond, eqb}
use Rattle.types.specs.declared.ChannelCloseReason.{ChannelCloseReason}

-- "a serialized reason of maximum ChannelCloseReason::MAX (not in our text: read it at the commit, prove over one named constant of
-- at least 2 …)". It is 15 there; what proofs use of that is two laws (crates/types/proofs/Reasons.antt).
unfoldable pub close_reason_maximum : ℕ
close_reason_maximum = 15

-- "payload count, serialized of maximum 16,384"
abbrev pub payload_maximum : ℕ
payload_maximum = 16384

-- the longest payload that such a count can tell: 11 refuses a longer one
abbrev pub longest_payload : ℕ
longest_payload = 16383

-- "A packet stays within 65,535 bytes", and its bits
abbrev pub longest_packet : ℕ
longest_packet = 65535

abbrev pub longest_packet_bits : ℕ
longest_packet_bits = 524280

-- "limit 0 to 4,096"
abbrev pub most_channels : ℕ
most_channels = 4096

-- "active 0 to 4,096"
abbrev pub most_active_partials : ℕ
most_active_partials = 4096

-- "buffered bits 0 to 536,870,912"
abbrev pub most_buffered_bits : ℕ
most_buffered_bits = 536870912

-- the number that a reason is written as
abbrev pub reason_word : ChannelCloseReason → ℕ
reason_word ChannelCloseReason.Destroyed = 0
reason_word ChannelCloseReason.Dormancy = 1

-- "only raw 1 is Dormancy"
unfoldable pub reason_of : ℕ → ChannelCloseReason
reason_of raw = cond (eqb raw 1) ChannelCloseReason.Dormancy ChannelCloseReason.Destroyed
