use Rattle.std.proofs.lemmas.Grind.{common_steps}
use Rattle.std.proofs.Common.{ap, arith}
use Rattle.tas_desk.specs.Seats.{UnopenedContent}
use Rattle.tas_desk.proofs.desk.Desk.open.Goals as goal

pub returns-in-Ok-clause-fresh : goal.returns-in-Ok-clause-fresh
returns-in-Ok-clause-fresh g c = λ k low.
    let count = ap (λ (u : UnopenedContent). u.seats) c.unopened.view_is in
    c.in-Ok.ensures.fresh k (omega (arith, low, count))

pub invariant_of-desk : goal.invariant_of-desk
invariant_of-desk g c = grind (arith, common_steps)

pub returns-in-Ok-clause-seats : goal.returns-in-Ok-clause-seats
returns-in-Ok-clause-seats g c = grind (arith, common_steps)
