use Rattle.std.proofs.lemmas.Result.{err_from_is_err_and}
use Rattle.tas_language.specs.Replies.{reply_text}
use Rattle.tas_language.specs.declared.request.Request.TheVariants.{Do}
use Rattle.tas_seat.proofs.AnswerLemmas.{told_text, unanswered, command_answered}
use Rattle.tas_seat.proofs.EntryLemmas.{memory_alone}
use Rattle.tas_seat.proofs.requests.answer_script_line.Goals as goal

pub returns-clause-answer : goal.returns-clause-answer
returns-clause-answer g c =
    told_text c.args.seat.now c.reply_to_command.new.seat (Do c.args.command) (reply_text c.in_ok-reply.reply) c.answer_of_reply.result (λ bytes. bytes.items) c.answer_of_reply.ensures
    (command_answered g.row.A.Denot c.args.seat.now c.reply_to_command.new.seat c.args.command c.in_ok-reply.reply c.in_ok-reply.ensures.answer)

pub returns-in_err-reply-clause-answer : goal.returns-in_err-reply-clause-answer
returns-in_err-reply-clause-answer g c =
    let p = err_from_is_err_and c.from_residual.result c.from_residual.ensures.1 in
    rw (p.1, p.2) (unanswered c.args.seat.now c.reply_to_command.new.seat c.args.command c.in_err-reply.field-0.0 c.in_err-reply.ensures.answer)

pub returns-clause-entry : goal.returns-clause-entry
returns-clause-entry g c = memory_alone _ _ c.answer_of_reply.result c.answer_of_reply.ensures

pub returns-in_err-reply-clause-entry : goal.returns-in_err-reply-clause-entry
returns-in_err-reply-clause-entry g c =
    let p = err_from_is_err_and c.from_residual.result c.from_residual.ensures.1 in
    rw (p.1, p.2) (c.in_err-reply.ensures.entry)
