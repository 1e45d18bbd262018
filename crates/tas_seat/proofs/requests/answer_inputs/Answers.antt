use Rattle.tas_language.specs.declared.reply.Reply.TheVariants.{OutOfMemory}
use Rattle.tas_language.specs.Replies.{reply_text}
use Rattle.tas_language.specs.declared.request.Request.TheVariants.{Inputs}
use Rattle.tas_seat.proofs.AnswerLemmas.{told_text, inputs_answered, unshared_inputs}
use Rattle.tas_seat.proofs.EntryLemmas.{memory_alone}
use Rattle.tas_seat.proofs.requests.answer_inputs.Goals as goal

pub returns-in_default-clause-answer : goal.returns-in_default-clause-answer
returns-in_default-clause-answer g c =
    told_text c.args.seat.now c.bring.new.seat (Inputs c.args.from c.args.to) (reply_text OutOfMemory) c.answer_of_reply.result (λ bytes. bytes.items) c.answer_of_reply.ensures
    (unshared_inputs g.row.A.Denot c.args.seat.now c.bring.new.seat c.args.from c.args.to c.bring.ensures.seat c.in_default.ensures.zone)

pub returns-clause-answer : goal.returns-clause-answer
returns-clause-answer g c =
    inputs_answered c.args.seat.now c.bring.new.seat c.in-Ok.found.at c.in-Ok.found.gained c.args.from c.args.to c.zone_movie.result.now c.list_inputs.result (λ bytes. bytes.items) c.bring.ensures.seat c.in-Ok.ensures.at c.zone_movie.ensures c.in-Ok.ensures.zone
    c.list_inputs.ensures

pub returns-in_default-clause-entry : goal.returns-in_default-clause-entry
returns-in_default-clause-entry g c = memory_alone _ _ c.answer_of_reply.result c.answer_of_reply.ensures

pub returns-clause-entry : goal.returns-clause-entry
returns-clause-entry g c = memory_alone _ _ c.list_inputs.result c.list_inputs.ensures
