use Rattle.tas_journaling.proofs.talking.answer_unknown.Goals as goal

pub returns-in-Ok-clause-out : goal.returns-in-Ok-clause-out
returns-in-Ok-clause-out g c = rw c.unknown_line.ensures at c.in-Ok.ensures.out

pub returns-in-Err-clause-fault : goal.returns-in-Err-clause-fault
returns-in-Err-clause-fault g c = (c.in-Err.sent, rw c.unknown_line.ensures at c.in-Err.ensures.cut, c.counted.ensures)
