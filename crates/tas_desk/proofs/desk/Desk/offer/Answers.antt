use Rattle.std.proofs.Common.{ap, arith}
use Rattle.std.proofs.lemmas.Grind.{common_steps}
use Rattle.tas_desk.specs.Seats.{SeatContent}
use Rattle.tas_desk.proofs.WorkLemmas.{taken_of}
use Rattle.tas_desk.proofs.desk.Desk.offer.Goals as goal

pub returns-clause-seat : goal.returns-clause-seat
returns-clause-seat g c = grind (arith, common_steps)

pub returns-clause-cartridge : goal.returns-clause-cartridge
returns-clause-cartridge g c = grind (arith, common_steps)

pub returns-clause-taken : goal.returns-clause-taken
returns-clause-taken g c =
    let e = c.offer.ensures in
    taken_of _ _ _ _ _ (ap (λ (s : SeatContent _). s.front) e.seat) e.lawful e.lawful_now e.taken
