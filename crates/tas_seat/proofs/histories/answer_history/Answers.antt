use Rattle.std.proofs.Common.{subst, sym, ◌∙◌}
use Rattle.std.proofs.lemmas.Result.{IfOk-weaker}
use Rattle.tas_language.specs.declared.reply.Reply.TheVariants.{OutOfMemory}
use Rattle.tas_language.specs.Replies.{reply_text}
use Rattle.tas_language.specs.declared.request.Request.TheVariants.{History}
use Rattle.tas_seat.specs.Outcomes.{HasAnswer}
use Rattle.tas_seat.proofs.AnswerLemmas.{told_text, answered_or, history_answered, lost_history}
use Rattle.tas_seat.proofs.HistoryTextLemmas.{told_within}
use Rattle.tas_seat.proofs.EntryLemmas.{memory_alone, answer_alone}
use Rattle.tas_seat.proofs.histories.answer_history.Goals as goal

pub returns-in_default-clause-answer : goal.returns-in_default-clause-answer
returns-in_default-clause-answer g c =
    told_text c.args.seat.now c.history_part.new.seat (History c.args.from) (reply_text OutOfMemory) c.answer_of_reply.result (λ bytes. bytes.items) c.answer_of_reply.ensures
    (lost_history g.row.A.Denot c.args.seat.now c.history_part.new.seat c.args.from c.history_part.ensures.seat)

pub list_entries-bytes-requires : goal.list_entries-bytes-requires
list_entries-bytes-requires g c = told_within c.history_part.new.seat.front c.as_slice.result.now c.args.from c.in-Ok.history.at c.in-Ok.ensures.at (c.as_slice.ensures.value ∙ c.in-Ok.ensures.entries)

pub returns-clause-answer : goal.returns-clause-answer
returns-clause-answer g c =
    let told = history_answered g.row.A.Denot c.args.seat.now c.history_part.new.seat c.args.from c.in-Ok.history.at c.as_slice.result.now c.history_part.ensures.seat c.in-Ok.ensures.at (c.as_slice.ensures.value ∙ c.in-Ok.ensures.entries) in
    answered_or c.args.seat.now c.history_part.new.seat (History c.args.from) c.list_entries-bytes.result c.answer_or_refusal.result (λ bytes. bytes.items) c.answer_or_refusal.ensures
    (IfOk-weaker c.list_entries-bytes.result _ _ (λ bytes is. subst (HasAnswer g.row.A.Denot c.args.seat.now c.history_part.new.seat (History c.args.from)) (sym is) told) c.list_entries-bytes.ensures)
    (lost_history g.row.A.Denot c.args.seat.now c.history_part.new.seat c.args.from c.history_part.ensures.seat)

pub returns-in_default-clause-entry : goal.returns-in_default-clause-entry
returns-in_default-clause-entry g c = memory_alone _ _ c.answer_of_reply.result c.answer_of_reply.ensures

pub returns-clause-entry : goal.returns-clause-entry
returns-clause-entry g c = answer_alone _ _ c.list_entries-bytes.result c.answer_or_refusal.result c.answer_or_refusal.ensures
