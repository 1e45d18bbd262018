use Rattle.std.proofs.lemmas.Grind.{common_steps}
use Rattle.std.proofs.Common.{arith}
use Rattle.tas_desk.proofs.WorkLemmas.{takes_as, lawful_as, lawful_still}
use Rattle.tas_desk.proofs.locked_session.LockedSession.offer.Goals as goal

pub returns-clause-taken : goal.returns-clause-taken
returns-clause-taken g c =
    let e = c.offer.ensures in
    takes_as c.self.inside.session c.offer.new.self _ _ _ c.show_to.ensures.history c.self.view_is e.front e.states e.kept

pub returns-clause-lawful : goal.returns-clause-lawful
returns-clause-lawful g c = lawful_as c.self.inside.session _ c.show_to.ensures.history c.self.view_is c.show_to.ensures.lawful

pub returns-clause-lawful_now : goal.returns-clause-lawful_now
returns-clause-lawful_now g c =
    let e = c.offer.ensures in
    lawful_still c.self.inside.session c.offer.new.self _ c.show_to.ensures.history c.self.view_is e.same.1 e.lawful

pub invariant_of-seat : goal.invariant_of-seat
invariant_of-seat g c = grind (arith, common_steps)

pub returns-clause-seat : goal.returns-clause-seat
returns-clause-seat g c = grind (arith, common_steps)

pub returns-clause-begins : goal.returns-clause-begins
returns-clause-begins g c = grind (arith, common_steps)

pub returns-clause-cartridge : goal.returns-clause-cartridge
returns-clause-cartridge g c = grind (arith, common_steps)
