use Rattle.tas_seat.proofs.LookLemmas.{shot_answered}
use Rattle.tas_seat.proofs.commands.draw.Goals as goal

pub returns : goal.returns
returns g c =
    let e = c.shot-drawn.ensures in
    shot_answered c.args.seat.now c.shot-drawn.new.seat c.args.frame c.shot-drawn.result c.reply_to_shot.result e.seat e.reply e.zone e.window c.reply_to_shot.ensures
