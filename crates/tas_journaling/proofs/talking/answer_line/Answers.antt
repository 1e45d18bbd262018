use Rattle.std.proofs.lemmas.Grind.{common_steps}
use Rattle.std.proofs.Common.{Err, ap, sym, subst, arith}
use Rattle.tas_language.specs.Unheard.{unknown_text}
use Rattle.tas_seat.specs.Conversations.{talking}
use Rattle.tas_journaling.specs.declared.talking.TalkFault.{TalkFault}
use Rattle.tas_journaling.specs.Inside.{IsNotedTurn}
use Rattle.tas_journaling.proofs.TalkLemmas.{known_broken, known_turn, unknown_answered}
use Rattle.tas_journaling.proofs.talking.answer_line.Goals as goal

pub returns-in_default-clause-turn : goal.returns-in_default-clause-turn
returns-in_default-clause-turn g c = λ said holds none.
    unknown_answered g.met.H.Noting.laws (talking c.args.seat.now c.args.draft.now) c.args.journal.now said _ c.args.written _ _ c.answer_unknown.result none (c.in_default.ensures said holds) (ap unknown_text (c.unheard.ensures said holds)) c.answer_unknown.ensures.out c.answer_unknown.ensures.count
    c.answer_unknown.ensures.fault

pub returns-in-Ok-Some-clause-turn : goal.returns-in-Ok-Some-clause-turn
returns-in-Ok-Some-clause-turn g c = λ said holds none.
    known_turn g.met.H.Noting.laws (talking c.args.seat.now c.args.draft.now) (talking c.answer_noted.new.seat c.answer_noted.new.draft) c.args.journal.now c.answer_noted.new.journal said c.args.written c.in-Ok-Some.size c.saturating_add.result _ _ c.in-Some.request none (c.in-Some.ensures said holds)
    (rw c.in-Ok-Some.field-0-is at c.in-Ok-Some.ensures.answer) c.saturating_add.ensures

pub returns-in-Err-clause-turn : goal.returns-in-Err-clause-turn
returns-in-Err-clause-turn g c = λ said holds none.
    subst
    (λ (f : TalkFault). IsNotedTurn g.H.Noting.facts (talking c.args.seat.now c.args.draft.now) (talking c.answer_noted.new.seat c.answer_noted.new.draft) c.args.journal.now c.answer_noted.new.journal said c.args.written (g.W.Write.contents c.args.output.now)
    (g.W.Write.contents c.answer_noted.new.output) (Err f)) (sym c.counted.ensures)
    (known_broken g.met.H.Noting.laws (talking c.args.seat.now c.args.draft.now) (talking c.answer_noted.new.seat c.answer_noted.new.draft) c.args.journal.now c.answer_noted.new.journal said c.args.written _ _ c.in-Some.request c.in-Err.fault none (c.in-Some.ensures said holds) c.in-Err.ensures.answer
    c.in-Err.ensures.entry)

pub returns-in-Ok-None-clause-turn : goal.returns-in-Ok-None-clause-turn
returns-in-Ok-None-clause-turn g c = grind (arith, common_steps)
