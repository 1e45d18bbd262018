use Rattle.tas_seat.proofs.DraftEditLemmas.{change_answered}
use Rattle.tas_seat.proofs.draft.Draft.reply_to_change.Goals as goal

pub returns : goal.returns
returns g c = change_answered c.args.self.now c.change.new.self c.args.change c.change.result c.change.ensures
