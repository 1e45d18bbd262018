use Rattle.tas_seat.proofs.AnswerLemmas.{picture_answered}
use Rattle.tas_seat.proofs.requests.answer_picture.Goals as goal

pub returns : goal.returns
returns g c =
    let e = c.picture-drawn.ensures in
    picture_answered c.args.seat.now c.picture-drawn.new.seat c.args.frame c.picture-drawn.result c.answer_drawn.result (λ bytes. bytes.items) e.seat e.reply e.zone c.answer_drawn.ensures
