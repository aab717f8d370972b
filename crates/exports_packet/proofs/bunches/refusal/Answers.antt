-- Each case, by what the match told.
use mathlib.Core.Path.{refl}
use Rattle.bitio_window.specs.Refusals.{beyond, packet_too_long, unfit, unsound}
use Rattle.exports_packet.proofs.bunches.refusal.Goals as goal

pub returns-in-CursorPastEnd : goal.returns-in-CursorPastEnd
unfolding beyond
returns-in-CursorPastEnd c = rw c.in-CursorPastEnd.is refl

pub returns-in-PacketTooLong : goal.returns-in-PacketTooLong
unfolding packet_too_long
returns-in-PacketTooLong c = rw c.in-PacketTooLong.is refl

pub returns-in-Unfit : goal.returns-in-Unfit
unfolding unfit
returns-in-Unfit c = rw c.in-Unfit.is refl

pub returns-in-Unsound : goal.returns-in-Unsound
unfolding unsound
returns-in-Unsound c = rw c.in-Unsound.is refl
