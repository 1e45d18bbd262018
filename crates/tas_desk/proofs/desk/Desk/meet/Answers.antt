use Rattle.std.proofs.lemmas.Grind.{common_steps}
use Rattle.std.proofs.Common.{rules, arith}
use Rattle.tas_desk.proofs.desk.Desk.meet.Goals as goal

pub returns-clause-one : goal.returns-clause-one
returns-clause-one g c = search rules

pub returns-clause-other : goal.returns-clause-other
returns-clause-other g c = search rules

pub returns-clause-same : goal.returns-clause-same
returns-clause-same g c = search rules

pub returns-clause-at : goal.returns-clause-at
returns-clause-at g c = grind (arith, common_steps)
