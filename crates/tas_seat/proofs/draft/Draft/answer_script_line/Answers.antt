use Rattle.tas_language.specs.declared.command.Command.TheVariants.{Edit, Work}
use Rattle.tas_language.specs.Replies.{reply_text}
use Rattle.tas_language.specs.declared.request.Request.TheVariants.{Do}
use Rattle.tas_seat.proofs.DraftLemmas.{told_text}
use Rattle.tas_seat.proofs.draft.Draft.answer_script_line.Goals as goal

pub returns-in-Edit : goal.returns-in-Edit
returns-in-Edit g c =
    rw c.in-Edit.is
    (told_text c.args.self.now c.reply_to_change-reply.new.self (Do (Edit c.in-Edit.change)) (reply_text c.reply_to_change-reply.result) c.answer_of_reply.result (λ bytes. bytes.items) c.answer_of_reply.ensures c.reply_to_change-reply.ensures)

pub returns-in-Work : goal.returns-in-Work
returns-in-Work g c =
    rw c.in-Work.is
    (told_text c.args.self.now c.work-reply.new.self (Do (Work c.in-Work.frames)) (reply_text c.work-reply.result) c.answer_of_reply-in-Work.result (λ bytes. bytes.items) c.answer_of_reply-in-Work.ensures c.work-reply.ensures)
