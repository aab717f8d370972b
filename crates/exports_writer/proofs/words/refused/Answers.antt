-- Each case, by what the match told.
use Rattle.bitio_window.specs.Refusals.{beyond, payload_too_long, payload_short, unwritable, no_room}
use Rattle.exports_writer.specs.Words.{written_words}
use Rattle.exports_writer.proofs.words.refused.Goals as goal

pub returns-in-CursorPastRoom : goal.returns-in-CursorPastRoom
unfolding written_words beyond
returns-in-CursorPastRoom c = rw c.in-CursorPastRoom.is

pub returns-in-PayloadTooLong : goal.returns-in-PayloadTooLong
unfolding written_words payload_too_long
returns-in-PayloadTooLong c = rw c.in-PayloadTooLong.is

pub returns-in-PayloadShort : goal.returns-in-PayloadShort
unfolding written_words payload_short
returns-in-PayloadShort c = rw c.in-PayloadShort.is

pub returns-in-Unwritable : goal.returns-in-Unwritable
unfolding written_words unwritable
returns-in-Unwritable c = rw c.in-Unwritable.is

pub returns-in-NoRoom : goal.returns-in-NoRoom
unfolding written_words no_room
returns-in-NoRoom c = rw c.in-NoRoom.is
