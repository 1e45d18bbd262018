use Rattle.tas_seat.proofs.DraftEditLemmas.{retouch_answered}
use Rattle.tas_seat.proofs.draft.Draft.reply_to_retouch.Goals as goal

pub returns : goal.returns
returns g c = retouch_answered c.args.self.now c.change.new.self c.args.retouch c.change.result c.change.ensures
