use Rattle.tas_seat.proofs.HeldLemmas.{held_talk, held_shut}
use Rattle.tas_seat.proofs.callers.HostVisitorCaller.visit.Goals as goal

pub returns-in_default : goal.returns-in_default
returns-in_default g c = held_shut g.D.Door.facts c.args.caller.now.door c.open.new.self c.args.caller.now.seat c.in_default.ensures.refused

pub returns : goal.returns
returns g c =
    held_talk g.D.Door.facts c.args.caller.now.door c.close.new.self c.args.caller.now.seat c.converse-end.new.seat _ _ _ _ c.converse-end.result _ c.in-Ok.ensures.input c.in-Ok.ensures.output c.converse-end.ensures c.seat_end-caller.ensures c.close.ensures
