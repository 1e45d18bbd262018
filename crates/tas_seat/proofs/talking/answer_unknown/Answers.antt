use Rattle.tas_seat.proofs.talking.answer_unknown.Goals as goal

pub returns-clause-out : goal.returns-clause-out
returns-clause-out g c = rw c.unknown_line.ensures at c.hand_out.ensures.out

pub returns-clause-count : goal.returns-clause-count
returns-clause-count g c = rw c.unknown_line.ensures at c.hand_out.ensures.count

pub returns-clause-fault : goal.returns-clause-fault
returns-clause-fault g c = rw c.unknown_line.ensures at c.hand_out.ensures.fault
