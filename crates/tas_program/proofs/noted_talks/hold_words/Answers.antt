use Rattle.tas_program.proofs.noted_talks.hold_words.Goals as goal

pub returns-in-None : goal.returns-in-None
returns-in-None g c = rw c.in-None.is (c.hold_talk.result.end, c.unnoted.ensures.end, rw c.unnoted.ensures.movie c.hold_talk.ensures)

pub returns-in-Some : goal.returns-in-Some
returns-in-Some g c = rw c.in-Some.is c.note_talk.ensures
