use Rattle.std.proofs.Common.{arith}
use Rattle.std.proofs.lemmas.Grind.{common_steps}
use Rattle.tas_seat.proofs.TalkLemmas.{last_none}
use Rattle.tas_journaling.proofs.talking.answer_last.Goals as goal

pub returns-then-is_empty-clause-out : goal.returns-then-is_empty-clause-out
returns-then-is_empty-clause-out g c = λ said holds. last_none said _ (c.is_empty.ensures.none c.if-is_empty.true said holds)

pub returns-in-Err-clause-fault : goal.returns-in-Err-clause-fault
returns-in-Err-clause-fault g c = grind (arith, common_steps)
