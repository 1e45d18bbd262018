use Rattle.std.proofs.Common.{ap, arith}
use Rattle.std.proofs.lemmas.Grind.{common_steps}
use Rattle.tas_desk.specs.Seats.{SeatContent}
use Rattle.tas_desk.proofs.WorkLemmas.{job_of}
use Rattle.tas_desk.proofs.desk.Desk.job.Goals as goal

pub returns-clause-seat : goal.returns-clause-seat
returns-clause-seat g c = grind (arith, common_steps)

pub returns-clause-job : goal.returns-clause-job
returns-clause-job g c = job_of _ _ _ _ (ap (λ (s : SeatContent _). s.front) c.job.ensures.seat) c.job.ensures.lawful c.job.ensures.job
