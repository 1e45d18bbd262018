use Rattle.std.proofs.Common.{arith}
use Rattle.std.proofs.lemmas.Grind.{common_steps}
use Rattle.tas_journaling.proofs.SharedLemmas.{told_done, told_same, told_short}
use Rattle.tas_journaling.proofs.noting.SharedNotesNoting.note_answer.Goals as goal

pub returns-clause-done : goal.returns-clause-done
returns-clause-done g c = told_done c.args.edits c.note.result c.args.seat.now c.note.new.seat _ c.note.new.receipt c.if-not-edits.false c.note.ensures.seat c.note.ensures.done

pub returns-clause-fault : goal.returns-clause-fault
returns-clause-fault g c = told_short c.note.result c.args.seat.now c.note.new.seat _ c.args.self.now c.note.new.receipt c.self.view_is c.note.ensures.fault

pub returns-then-not-edits-clause-done : goal.returns-then-not-edits-clause-done
returns-then-not-edits-clause-done g c = rw c.if-not-edits.true (told_same c.args.seat.now _)

pub returns-then-not-edits-clause-seat : goal.returns-then-not-edits-clause-seat
returns-then-not-edits-clause-seat g c = grind (arith, common_steps)
