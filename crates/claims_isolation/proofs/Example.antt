-- What the claims ask can be met: two chains in turn on two channels, with both limits just enough, and the first one taken.
use Prim.Native.Nat.{ℕ, ◌^◌, ◌<◌}
use mathlib.Core.Path.{◌≡◌, refl}
use mathlib.Core.Bool.{Bool, true, false, not, true≢false}
use mathlib.Core.List.{List, [], ◌∷◌}
use native.Mathlib.Omega.{arith}
use lib.IntN.{pos}
use Rattle.types.specs.declared.ChannelCloseReason.{ChannelCloseReason}
use Rattle.std.proofs.Common.{None}
use Rattle.types.specs.declared.RawBunchHeader.{RawBunchHeader}
use Rattle.tables.specs.Columns.{laid, beside}
use Rattle.tables.specs.Tables.{get}
use Rattle.types.specs.Continuing.{continues, following}
use Rattle.words.specs.Range.{InRange}
use Rattle.bunch_places.specs.Bytes.{pasted, payload_bytes}
use Rattle.bunch_judging.specs.Held.{Fragment}
use Rattle.bunch_judging.specs.Fates.{follows}
use Rattle.bunch_held.specs.Memory.{HeldMemory, state_of, held_in}
use Rattle.bunch_held.specs.Sound.{fit}
use Rattle.bunch_held.specs.Steps.{adding, taking}
use Rattle.claims_isolation.specs.Runs.{Call, empty_lent, reply_to, lent_after, calls_of, Each, is_in, payloads, WithinLimits}
use Rattle.claims_isolation.specs.Chains.{GoesOn, Unbroken, joined_bytes}
use Rattle.claims_isolation.proofs.Chains.{joined_chains}

abbrev pub header : Bool → ℕ → RawBunchHeader
header first n =
    record {
      packet_id = pos 0;
      ch_index = 0;
      b_open = false;
      b_close = false;
      b_dormant = false;
      b_is_replication_paused = false;
      b_reliable = true;
      b_partial = true;
      b_partial_initial = first;
      b_partial_final = not first;
      b_has_package_map_exports = false;
      b_has_must_be_mapped_guids = false;
      ch_sequence = pos n;
      close_reason = ChannelCloseReason.Destroyed;
      payload_bit_count = 0;
      payload_bit_offset = 0;
      has_partial_error = false;
      partial_error_kind = None;
      is_partial_completed = false;
      has_channel_limit_error = false;
    }

pub in_range : (first : Bool) (n : ℕ) → n < 2 ^ 31 → InRange (header first n)
in_range first n h =
    record {
      packet_id = record { sfits = omega arith };
      ch_index = omega arith;
      ch_sequence = record { sfits = h };
      payload_bit_count = omega arith;
      payload_bit_offset = omega arith;
    }

-- one byte, and then four bits
abbrev pub start : ℕ → Fragment
start byte = record { header = header true 1; bits = 8; payload = byte ∷ [] }

abbrev pub end : ℕ → Fragment
end byte = record { header = header false 2; bits = 4; payload = byte ∷ [] }

abbrev pub add : ℕ → Fragment → Call
add c f = record { channel = c; act = adding f; output = [] }

abbrev calls : List Call
calls = add 3 (start 17) ∷ add 5 (start 34) ∷ add 5 (end 68) ∷ add 3 (end 255) ∷ []

fits : WithinLimits 2 24 calls
unfolding Each is_in payloads
fits =
    let first = in_range true 1 (omega arith) in
    let last = in_range false 2 (omega arith) in
    record {
      channels = 3 ∷ 5 ∷ [];
      few = omega arith;
      among = (refl, (refl, (refl, (refl, tt))));
      bits = omega arith;
      in_range = (first, (first, (last, (last, tt))));
    }

unbroken : Unbroken (start 17) (end 255 ∷ [])
unfolding GoesOn Each follows continues following
unbroken =
    record {
      initial = refl;
      continuings = (refl, refl, refl, refl);
      plain = (
        record { passes_11 = omega arith; passes_12 = omega arith; no_flag = refl; aligned = λ e. refl },
        (record { passes_11 = omega arith; passes_12 = omega arith; no_flag = refl; aligned = λ e. absurd (true≢false e) }, tt),
      );
    }

-- two places, and an arena of five bytes
abbrev memory : HeldMemory
memory = record { channels = 0 ∷ 0 ∷ []; places = [] ∷ [] ∷ []; arena = 7 ∷ 7 ∷ 7 ∷ 7 ∷ 7 ∷ [] }

abbrev output : List ℕ
output = 9 ∷ 9 ∷ 9 ∷ []

pub taken_joined : (reply_to (lent_after (empty_lent 2 24 memory) calls) (record { channel = 3; act = taking; output = output })).output ≡ 17 ∷ 15 ∷ 9 ∷ []
unfolding fit calls_of lent_after joined_bytes payload_bytes pasted laid get state_of held_in beside
taken_joined = (joined_chains 2 24 memory refl [] calls fits 3 refl (start 17) (end 255 ∷ []) unbroken refl output (omega arith)).2
