use Rattle.std.proofs.Common.{subst, arith}
use Rattle.tas_green.specs.Window.{IsWindowMoved}
use Rattle.tas_desk.specs.Seats.{SeatContent}
use Rattle.std.proofs.lemmas.Grind.{common_steps}
use Rattle.tas_desk.proofs.WorkLemmas.{lawful_as}
use Rattle.tas_desk.proofs.locked_session.LockedSession.bring.Goals as goal

pub returns-clause-lawful : goal.returns-clause-lawful
returns-clause-lawful g c = lawful_as c.self.inside.session _ c.show_to.ensures.history c.self.view_is c.show_to.ensures.lawful

pub invariant_of-seat : goal.invariant_of-seat
invariant_of-seat g c = grind (arith, common_steps)

pub returns-clause-begins : goal.returns-clause-begins
returns-clause-begins g c = grind (arith, common_steps)

pub share-requires-clause-lawful : goal.share-requires-clause-lawful
share-requires-clause-lawful g c = grind (arith, common_steps)

pub returns-clause-seat : goal.returns-clause-seat
returns-clause-seat g c = grind (arith, common_steps)

pub returns-clause-cut : goal.returns-clause-cut
returns-clause-cut g c =
    subst (λ (s : SeatContent _). IsWindowMoved s.zone.movie c.share.new.self.movie s.zone.window c.share.new.self.window) c.seat.view_is c.in_ok-gained.ensures.cut

pub returns-clause-made : goal.returns-clause-made
returns-clause-made g c = grind (arith, common_steps)

pub returns-clause-gained : goal.returns-clause-gained
returns-clause-gained g c = grind (arith, common_steps)

pub returns-clause-at : goal.returns-clause-at
returns-clause-at g c = grind (arith, common_steps)

pub invariant_of-seat-2 : goal.invariant_of-seat-2
invariant_of-seat-2 g c = grind (arith, common_steps)
