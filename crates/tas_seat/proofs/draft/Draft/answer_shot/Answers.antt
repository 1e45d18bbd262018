use Rattle.std.proofs.Common.{Ok, Err}
use Rattle.tas_language.specs.declared.command.Command.TheVariants.{Shot}
use Rattle.tas_language.specs.Replies.{reply_text}
use Rattle.tas_language.specs.declared.request.Request.TheVariants.{Do}
use Rattle.tas_seat.proofs.DraftLemmas.{told_text, shot_answered}
use Rattle.tas_seat.proofs.draft.Draft.answer_shot.Goals as goal

pub returns : goal.returns
returns g c =
    told_text c.args.self.now c.shot-drawn.new.self (Do (Shot c.args.frame)) (reply_text c.in_ok-reply.reply) c.answer_of_reply.result (λ bytes. bytes.items) c.answer_of_reply.ensures
    (shot_answered c.args.self.now c.shot-drawn.new.self c.args.frame c.shot-drawn.result (Ok c.in_ok-reply.reply) c.shot-drawn.ensures c.in_ok-reply.ensures)

pub returns-in_err-reply : goal.returns-in_err-reply
returns-in_err-reply g c =
    absurd (shot_answered c.args.self.now c.shot-drawn.new.self c.args.frame c.shot-drawn.result (Err c.in_err-reply.field-0.0) c.shot-drawn.ensures c.in_err-reply.ensures)
