-- `Telling` holds at each turn: what is written and what is still to come make up the packet's text.
use Rattle.std.proofs.Common.{refl, ap, ◌∙◌, rules}
use mir.Syntax.{w32}
use mir.ValLaws.{to_z-of_z}
use Rattle.packet_reading.specs.declared.Bunch.{Bunch}
use Rattle.packet_reading.specs.Answers.{bunch_outcome}
use Rattle.log_telling.specs.Listed.{goes_on}
use Rattle.log_telling.proofs.Telling.{begins, turned, nearer, few_sums, told, line_text, stopped, no_text}
use Rattle.log_telling.proofs.inner.tell.Goals as goal

pub loop-header-init : goal.loop-header-init
loop-header-init c =
    let p = c.requires in
    (p.0, refl, search rules, begins _ _ _ _ _ _ p.1 p.2.left)

pub raise-requires : goal.raise-requires
raise-requires c = few_sums _ _ _ _ _ _ c.loop-header.invariant.3 c.requires.1

pub loop-header-smaller : goal.loop-header-smaller
loop-header-smaller c =
    let i = c.loop-header.invariant in
    let r = c.read-read in
    nearer _ _ _ _ _ _ _ i.1 _ i.3 _ c.to_word-word.ensures r.result r.new.at r.new.reader _ r.ensures.reply.0 (ap (λ (b : Bunch). goes_on (bunch_outcome b)) c.in-Read.is)

pub loop-header-preserved : goal.loop-header-preserved
loop-header-preserved c =
    let i = c.loop-header.invariant in
    let r = c.read-read in
    let line = rw c.line_of.ensures at c.bunch_line-end.ensures in
    let t = turned _ _ _ _ _ _ _ i.1 _ i.3 _ c.to_word-word.ensures r.result r.new.at r.new.reader _ r.ensures.reply.0 (rw (line_text r.result.answer _ _ c.in-Read.is) at line) c.raise.ensures in
    (r.ensures.reply.2, r.ensures.reply.1 ∙ i.1, search rules, rw c.in-Read.is at t)

pub returns-in-End-clause-told : goal.returns-in-End-clause-told
returns-in-End-clause-told c =
    let i = c.loop-header.invariant in
    let r = c.read-read in
    let s = stopped r.result.answer c.in-End.is in
    let t = turned _ _ _ _ _ _ _ i.1 _ i.3 _ c.to_word-word.ensures r.result r.new.at r.new.reader _ r.ensures.reply.0 (no_text c.loop-header.out c.loop-header.end s.0) c.raise.ensures in
    let all = told _ _ _ _ _ _ r.new.reader _ (rw s.1 at t) c.close.ensures r.ensures.reply.2 in
    (rw (to_z-of_z w32 c.args.id c.ranges.id) at all, r.ensures.reply.1 ∙ i.1)
