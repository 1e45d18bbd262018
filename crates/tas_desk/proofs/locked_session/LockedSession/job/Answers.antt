use Rattle.std.proofs.lemmas.Grind.{common_steps}
use Rattle.std.proofs.Common.{arith}
use Rattle.tas_desk.proofs.WorkLemmas.{job_from, lawful_as}
use Rattle.tas_desk.proofs.locked_session.LockedSession.job.Goals as goal

pub returns-clause-job : goal.returns-clause-job
returns-clause-job g c =
    let e = c.job.ensures in
    job_from c.self.inside.session _ _ _ c.show_to.ensures.history c.self.view_is e.cart e.inputs e.stride e.start

pub returns-clause-lawful : goal.returns-clause-lawful
returns-clause-lawful g c = lawful_as c.self.inside.session _ c.show_to.ensures.history c.self.view_is c.show_to.ensures.lawful

pub invariant_of-seat : goal.invariant_of-seat
invariant_of-seat g c = grind (arith, common_steps)

pub returns-clause-seat : goal.returns-clause-seat
returns-clause-seat g c = grind (arith, common_steps)

pub returns-clause-begins : goal.returns-clause-begins
returns-clause-begins g c = grind (arith, common_steps)
