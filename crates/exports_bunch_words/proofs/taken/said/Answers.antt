-- Each case, by what the match told.
use mathlib.Core.Path.{refl}
use Rattle.bitio_window.specs.Refusals.{unsound, payload_too_long, payload_short, output_short, too_few_places}
use Rattle.exports_bunch_words.proofs.taken.said.Goals as goal

pub returns-in-Unsound : goal.returns-in-Unsound
unfolding unsound
returns-in-Unsound c = rw c.in-Unsound.is refl

pub returns-in-PayloadTooLong : goal.returns-in-PayloadTooLong
unfolding payload_too_long
returns-in-PayloadTooLong c = rw c.in-PayloadTooLong.is refl

pub returns-in-PayloadShort : goal.returns-in-PayloadShort
unfolding payload_short
returns-in-PayloadShort c = rw c.in-PayloadShort.is refl

pub returns-in-OutputShort : goal.returns-in-OutputShort
unfolding output_short
returns-in-OutputShort c = rw c.in-OutputShort.is refl

pub returns-in-ListFull : goal.returns-in-ListFull
unfolding too_few_places
returns-in-ListFull c = rw c.in-ListFull.is refl
