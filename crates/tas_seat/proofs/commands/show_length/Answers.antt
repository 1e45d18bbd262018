use Rattle.std.proofs.Common.{arith}
use Rattle.std.proofs.lemmas.Grind.{common_steps}
use Rattle.tas_seat.proofs.LookLemmas.{length_answered}
use Rattle.tas_seat.proofs.commands.show_length.Goals as goal

pub returns-in-Ok : goal.returns-in-Ok
returns-in-Ok g c = length_answered g.row.A.Denot c.args.seat.now c.len.new.seat c.in-Ok.at c.in-Ok.len c.len.ensures.seat c.in-Ok.ensures.reply.0 c.in-Ok.ensures.reply.1

pub returns-in-Err : goal.returns-in-Err
returns-in-Err g c = grind (arith, common_steps)
