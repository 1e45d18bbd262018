use Rattle.std.proofs.Common.{ap, arith}
use Rattle.std.proofs.lemmas.Grind.{common_steps}
use Rattle.tas_desk.specs.Seats.{SeatContent}
use Rattle.tas_desk.proofs.WorkLemmas.{shared_of}
use Rattle.tas_desk.proofs.desk.Desk.bring.Goals as goal

pub returns-clause-zone : goal.returns-clause-zone
returns-clause-zone g c =
    let e = c.bring.ensures in
    shared_of _ _ _ _ _ (ap (λ (s : SeatContent _). s.front) e.seat) e.lawful e.made e.gained e.cut e.memory

pub returns-clause-seat : goal.returns-clause-seat
returns-clause-seat g c = grind (arith, common_steps)

pub returns-clause-at : goal.returns-clause-at
returns-clause-at g c = grind (arith, common_steps)
