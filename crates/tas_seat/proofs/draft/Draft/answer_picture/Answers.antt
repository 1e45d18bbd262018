use Rattle.tas_seat.proofs.DraftLemmas.{picture_answered}
use Rattle.tas_seat.proofs.draft.Draft.answer_picture.Goals as goal

pub returns : goal.returns
returns g c = picture_answered c.args.self.now c.picture-drawn.new.self c.args.frame c.picture-drawn.result c.answer_drawn.result (λ bytes. bytes.items) c.picture-drawn.ensures.picture c.answer_drawn.ensures
