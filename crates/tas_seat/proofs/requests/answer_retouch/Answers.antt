use Rattle.std.proofs.Common.{sym, ◌∙◌}
use Rattle.std.proofs.lemmas.Result.{err_from_is_err_and}
use Rattle.tas_language.specs.Replies.{reply_text}
use Rattle.tas_language.specs.declared.request.Request.TheVariants.{Retouch}
use Rattle.tas_seat.proofs.AnswerLemmas.{told_text, miscounted_unanswered, retouch_answered}
use Rattle.tas_seat.proofs.EntryLemmas.{memory_alone, foreign_no_entry}
use Rattle.tas_seat.proofs.requests.answer_retouch.Goals as goal

pub returns-clause-answer : goal.returns-clause-answer
returns-clause-answer g c =
    told_text c.args.seat.now c.make_edit.new.seat (Retouch c.args.retouch) (reply_text c.in_ok-reply.reply) c.answer_of_reply.result (λ bytes. bytes.items) c.answer_of_reply.ensures
    (retouch_answered g.row.A.Denot c.args.seat.now c.make_edit.new.seat c.args.retouch c.in_ok-reply.reply c.in_ok-reply.ensures)

pub returns-in_err-reply-clause-answer : goal.returns-in_err-reply-clause-answer
returns-in_err-reply-clause-answer g c =
    let p = err_from_is_err_and c.from_residual.result c.from_residual.ensures.1 in
    rw (p.1, p.2) (miscounted_unanswered c.args.seat.now c.make_edit.new.seat (Retouch c.args.retouch) c.in_err-reply.field-0.0 c.in_err-reply.ensures)

pub returns-clause-entry : goal.returns-clause-entry
returns-clause-entry g c = memory_alone _ _ c.answer_of_reply.result c.answer_of_reply.ensures

pub returns-in_err-reply-clause-entry : goal.returns-in_err-reply-clause-entry
returns-in_err-reply-clause-entry g c =
    let p = err_from_is_err_and c.from_residual.result c.from_residual.ensures.1 in
    rw (p.1, p.2) (λ e. absurd (foreign_no_entry (sym c.in_err-reply.ensures.0 ∙ e)))
