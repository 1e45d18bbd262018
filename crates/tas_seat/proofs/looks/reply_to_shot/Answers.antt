use Rattle.std.proofs.Common.{ℕ, Ok, ap}
use Rattle.tas_language.specs.declared.reply.Reply.TheVariants.{Drawn}
use Rattle.tas_seat.proofs.looks.reply_to_shot.Goals as goal

pub returns-in-Err : goal.returns-in-Err
returns-in-Err g c = rw c.in-Err.is c.unshown_as.ensures

pub returns : goal.returns
returns g c = rw c.in-Ok.is (ap (λ (lit : ℕ). Ok (Drawn c.in-Ok.shot.at c.in-Ok.shot.frame c.in-Ok.shot.ran lit)) c.lit-lit.ensures)
