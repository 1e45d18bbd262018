use Rattle.std.proofs.Common.{arith}
use Rattle.std.proofs.lemmas.Grind.{common_steps}
use Rattle.tas_seat.proofs.LookLemmas.{input_error_is, input_answered, no_input_answered}
use Rattle.tas_seat.proofs.commands.show_input.Goals as goal

pub returns-in-Ok : goal.returns-in-Ok
returns-in-Ok g c = input_answered g.row.A.Denot c.args.seat.now c.input.new.seat c.args.frame c.in-Ok.at c.in-Ok.input c.input.ensures.seat c.in-Ok.ensures.reply

pub returns-in-Err-NoFrame : goal.returns-in-Err-NoFrame
returns-in-Err-NoFrame g c =
    no_input_answered g.row.A.Denot c.args.seat.now c.input.new.seat c.args.frame c.in-Err-NoFrame.at c.in-Err-NoFrame.len c.input.ensures.seat
    (input_error_is c.args.seat.now c.input.new.seat c.args.frame _ _ c.in-Err-NoFrame.field-0-is c.in-Err-NoFrame.ensures.reply)

pub returns-in-Err-NoEntry : goal.returns-in-Err-NoEntry
returns-in-Err-NoEntry g c = grind (arith, common_steps)
