-- A close reason's maximum as proofs know it, and a close reason from its number.
use Prim.Native.Nat.{◌^◌, ◌≤◌, ◌<◌}
use mathlib.Core.Path.{◌≡◌, refl}
use native.Mathlib.Omega.{arith}
use Rattle.types.specs.declared.ChannelCloseReason.{ChannelCloseReason}
use Rattle.types.specs.Types.{close_reason_maximum, reason_word, reason_of}

-- "of at least 2"
pub maximum_least : 2 ≤ close_reason_maximum
unfolding close_reason_maximum
maximum_least = omega arith

-- a reason of so few bits stands in one word with the flags before it and the channel after it
pub maximum_most : close_reason_maximum ≤ 2 ^ 11
unfolding close_reason_maximum
maximum_most = omega arith

pub reason_fits : (r : ChannelCloseReason) → reason_word r < close_reason_maximum
reason_fits ChannelCloseReason.Destroyed = omega (arith, maximum_least)
reason_fits ChannelCloseReason.Dormancy = omega (arith, maximum_least)

pub reason_back : (r : ChannelCloseReason) → reason_of (reason_word r) ≡ r
unfolding reason_of
reason_back ChannelCloseReason.Destroyed = refl
reason_back ChannelCloseReason.Dormancy = refl
