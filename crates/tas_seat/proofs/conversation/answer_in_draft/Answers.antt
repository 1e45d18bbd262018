use Rattle.tas_seat.proofs.SubjectLemmas.{inside_said}
use Rattle.tas_seat.proofs.EntryLemmas.{memory_leaves}
use Rattle.tas_seat.proofs.conversation.answer_in_draft.Goals as goal

pub returns-clause-answer : goal.returns-clause-answer
returns-clause-answer g c = λ seat.
    inside_said g.row.A.Denot seat c.args.opened.now c.answer.new.self c.args.request c.answer.result (λ bytes. bytes.items) c.requires c.answer.ensures.answer c.answer.ensures.kept

pub returns-clause-entry : goal.returns-clause-entry
returns-clause-entry g c = memory_leaves _ _ _ c.answer.result c.answer.ensures.answer
