use Rattle.std.proofs.Common.{length, ap, subst, sym, ◌∙◌}
use Rattle.std.proofs.lemmas.Result.{IfOk-weaker}
use Rattle.tas_language.specs.declared.reply.Reply.TheVariants.{OutOfMemory}
use Rattle.tas_green.specs.View.{ViewContent}
use Rattle.tas_language.specs.Answers.{states_text}
use Rattle.tas_language.specs.Replies.{reply_text}
use Rattle.tas_language.specs.declared.request.Request.TheVariants.{States}
use Rattle.tas_seat.specs.Requests.{kept_frames}
use Rattle.tas_seat.specs.Outcomes.{HasAnswer}
use Rattle.tas_seat.proofs.AnswerLemmas.{told_text, answered_or, states_answered, unshared_states, unwritten_states}
use Rattle.tas_seat.proofs.EntryLemmas.{memory_alone, answer_alone}
use Rattle.tas_seat.proofs.requests.answer_states.Goals as goal

pub returns-in_default-clause-answer : goal.returns-in_default-clause-answer
returns-in_default-clause-answer g c =
    told_text c.args.seat.now c.bring.new.seat States (reply_text OutOfMemory) c.answer_of_reply.result (λ bytes. bytes.items) c.answer_of_reply.ensures
    (unshared_states g.row.A.Denot c.args.seat.now c.bring.new.seat c.bring.ensures.seat c.in_default.ensures.zone)

pub returns-clause-answer : goal.returns-clause-answer
returns-clause-answer g c =
    let told = states_answered g.row.A.Denot c.args.seat.now c.bring.new.seat c.in-Ok.shared.at c.in-Ok.shared.gained c.bring.ensures.seat c.in-Ok.ensures.at c.in-Ok.ensures.zone in
    answered_or c.args.seat.now c.bring.new.seat States c.list_states-bytes.result c.answer_or_refusal.result (λ bytes. bytes.items) c.answer_or_refusal.ensures
    (IfOk-weaker c.list_states-bytes.result _ _ (λ bytes is. subst (HasAnswer g.row.A.Denot c.args.seat.now c.bring.new.seat States)
    (sym (is ∙ ap (λ (v : ViewContent). states_text c.in-Ok.shared.at (kept_frames (length v.movie.inputs) v.states)) c.view.ensures)) told) c.list_states-bytes.ensures)
    (unwritten_states g.row.A.Denot c.args.seat.now c.bring.new.seat c.in-Ok.shared.gained c.bring.ensures.seat c.in-Ok.ensures.zone)

pub returns-in_default-clause-entry : goal.returns-in_default-clause-entry
returns-in_default-clause-entry g c = memory_alone _ _ c.answer_of_reply.result c.answer_of_reply.ensures

pub returns-clause-entry : goal.returns-clause-entry
returns-clause-entry g c = answer_alone _ _ c.list_states-bytes.result c.answer_or_refusal.result c.answer_or_refusal.ensures
