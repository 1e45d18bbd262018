use Rattle.std.proofs.Common.{subst, sym}
use Rattle.std.proofs.lemmas.Result.{IfOk-weaker}
use Rattle.tas_language.specs.declared.reply.Reply.TheVariants.{OutOfMemory}
use Rattle.tas_language.specs.Replies.{reply_text}
use Rattle.tas_language.specs.declared.request.Request.TheVariants.{Movie}
use Rattle.tas_seat.specs.Outcomes.{HasAnswer}
use Rattle.tas_seat.proofs.AnswerLemmas.{told_text, answered_or, movie_answered, unshared_movie, unwritten_movie}
use Rattle.tas_seat.proofs.EntryLemmas.{memory_alone, answer_alone}
use Rattle.tas_seat.proofs.requests.answer_movie.Goals as goal

pub returns-in_default-clause-answer : goal.returns-in_default-clause-answer
returns-in_default-clause-answer g c =
    told_text c.args.seat.now c.bring.new.seat Movie (reply_text OutOfMemory) c.answer_of_reply.result (λ bytes. bytes.items) c.answer_of_reply.ensures
    (unshared_movie g.row.A.Denot c.args.seat.now c.bring.new.seat c.bring.ensures.seat c.in_default.ensures.zone)

pub returns-clause-answer : goal.returns-clause-answer
returns-clause-answer g c =
    let told = movie_answered g.row.A.Denot c.args.seat.now c.bring.new.seat c.in-Ok.brought.at c.in-Ok.brought.gained c.zone_movie.result.now c.bring.ensures.seat c.in-Ok.ensures.at c.zone_movie.ensures c.in-Ok.ensures.zone in
    answered_or c.args.seat.now c.bring.new.seat Movie c.movie_answer-bytes.result c.answer_or_refusal.result (λ bytes. bytes.items) c.answer_or_refusal.ensures
    (IfOk-weaker c.movie_answer-bytes.result _ _ (λ bytes is. subst (HasAnswer g.row.A.Denot c.args.seat.now c.bring.new.seat Movie) (sym is) told) c.movie_answer-bytes.ensures)
    (unwritten_movie g.row.A.Denot c.args.seat.now c.bring.new.seat c.in-Ok.brought.gained c.bring.ensures.seat c.in-Ok.ensures.zone)

pub returns-in_default-clause-entry : goal.returns-in_default-clause-entry
returns-in_default-clause-entry g c = memory_alone _ _ c.answer_of_reply.result c.answer_of_reply.ensures

pub returns-clause-entry : goal.returns-clause-entry
returns-clause-entry g c = answer_alone _ _ c.movie_answer-bytes.result c.answer_or_refusal.result c.answer_or_refusal.ensures
