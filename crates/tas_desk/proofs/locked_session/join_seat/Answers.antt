use Rattle.std.proofs.lemmas.Grind.{common_steps}
use Rattle.std.proofs.Common.{ap, arith}
use Rattle.tas_desk.specs.Seats.{SeatContent}
use Rattle.tas_desk.proofs.locked_session.join_seat.Goals as goal

pub returns-clause-parts : goal.returns-clause-parts
returns-clause-parts g c = omega (arith, c.merge.ensures.parts, c.seat.invariant.parts)

pub returns-clause-amount : goal.returns-clause-amount
returns-clause-amount g c = omega (arith, c.merge.ensures.amount, c.seat.invariant.amount, ap (λ (s : SeatContent _). s.made) c.seat.view_is)

pub returns-clause-begins : goal.returns-clause-begins
returns-clause-begins g c = grind (arith, common_steps)
