-- The tests' refusal, or the word.
use mathlib.Core.Path.{sym, refl}
use Rattle.bitio_window.specs.Parse.{refuse}
use Rattle.bitio_window.specs.Reads.{sound}
use Rattle.bitio_window.proofs.Rows.{next_got, next_refused}
use Rattle.field_walking.specs.Walks.{Stop}
use Rattle.exports_words.specs.Words.{words}
use Rattle.exports_field.specs.Streams.{no_stream}
use Rattle.exports_field.proofs.records.unlisted.Goals as goal

pub returns-in-Ok : goal.returns-in-Ok
unfolding words refuse
returns-in-Ok c = rw (c.from.ensures, next_got c.args.bytes.now c.args.w sound (refuse {A = Stop} (no_stream c.args.word)) (sym c.in-Ok.ensures)) refl

pub returns-in-Err : goal.returns-in-Err
returns-in-Err c = rw (c.of_walk.ensures, c.into.ensures, next_refused c.args.bytes.now c.args.w sound (refuse {A = Stop} (no_stream c.args.word)) (sym c.in-Err.ensures)) refl
