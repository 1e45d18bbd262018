use Rattle.tas_program.proofs.desks.hold_desk.Goals as goal

pub returns-in-None : goal.returns-in-None
returns-in-None g c input = rw c.in-None.is (c.run_desk.result, c.ended.ensures, c.run_desk.ensures input)

pub returns-in-Some : goal.returns-in-Some
returns-in-Some g c input = rw c.in-Some.is (c.note_desk.ensures input)
