use Rattle.std.proofs.lemmas.Result.{err_from_is_err_and}
use Rattle.tas_language.specs.declared.reply.Reply.TheVariants.{OutOfMemory}
use Rattle.tas_language.specs.Replies.{reply_text}
use Rattle.tas_language.specs.declared.request.Request.TheVariants.{Share}
use Rattle.tas_seat.proofs.AnswerLemmas.{told_text, share_answered, lost_share, unshared_share}
use Rattle.tas_seat.proofs.EntryLemmas.{memory_alone, memory_no_entry}
use Rattle.tas_seat.proofs.requests.answer_share.Goals as goal

pub returns-in_default-clause-answer : goal.returns-in_default-clause-answer
returns-in_default-clause-answer g c =
    told_text c.args.seat.now c.bring.new.seat Share (reply_text OutOfMemory) c.answer_of_reply.result (λ bytes. bytes.items) c.answer_of_reply.ensures
    (unshared_share g.row.A.Denot c.args.seat.now c.bring.new.seat c.bring.ensures.seat c.in_default.ensures.zone)

pub returns-clause-answer : goal.returns-clause-answer
returns-clause-answer g c =
    share_answered g.row.A.Denot c.args.seat.now c.bring.new.seat c.in-Ok.shared.at c.in-Ok.shared.gained c.in_ok-share_answer.field-0.items c.bring.ensures.seat c.in-Ok.ensures.at c.in-Ok.ensures.zone c.in_ok-share_answer.ensures

pub returns-in_err-share_answer-clause-answer : goal.returns-in_err-share_answer-clause-answer
returns-in_err-share_answer-clause-answer g c =
    let p = err_from_is_err_and c.from_residual.result c.from_residual.ensures.1 in
    rw p.1 (lost_share g.row.A.Denot c.args.seat.now c.bring.new.seat c.in-Ok.shared.at c.in-Ok.shared.gained p.0 p.2 c.bring.ensures.seat c.in-Ok.ensures.at c.in-Ok.ensures.zone)

pub returns-in_default-clause-entry : goal.returns-in_default-clause-entry
returns-in_default-clause-entry g c = memory_alone _ _ c.answer_of_reply.result c.answer_of_reply.ensures

pub returns-in_err-share_answer-clause-entry : goal.returns-in_err-share_answer-clause-entry
returns-in_err-share_answer-clause-entry g c =
    let p = err_from_is_err_and c.from_residual.result c.from_residual.ensures.1 in
    rw (p.1, p.2) (λ e. absurd (memory_no_entry e))
