use Rattle.tas_language.specs.Replies.{reply_text}
use Rattle.tas_language.specs.declared.request.Request.TheVariants.{Retouch}
use Rattle.tas_seat.proofs.DraftLemmas.{told_text}
use Rattle.tas_seat.proofs.draft.Draft.answer_retouch.Goals as goal

pub returns : goal.returns
returns g c =
    told_text c.args.self.now c.reply_to_retouch-reply.new.self (Retouch c.args.retouch) (reply_text c.reply_to_retouch-reply.result) c.answer_of_reply.result (λ bytes. bytes.items) c.answer_of_reply.ensures c.reply_to_retouch-reply.ensures
