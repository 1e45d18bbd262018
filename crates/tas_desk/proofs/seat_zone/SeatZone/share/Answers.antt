use Rattle.std.proofs.Common.{arith}
use Rattle.std.proofs.lemmas.Grind.{elements}
use Rattle.tas_desk.proofs.ZoneLemmas.{shared_in, cut_in}
use Rattle.tas_desk.proofs.seat_zone.SeatZone.share.Goals as goal

pub returns-clause-gained : goal.returns-clause-gained
returns-clause-gained g c =
    shared_in c.self.inside.version c.self.inside.view c.follow.new.view c.gain.new.self c.args.self.now c.args.other.now c.gain.result c.self.view_is c.follow.ensures.brought c.gain.ensures.movie c.gain.ensures.states c.gain.ensures.count

pub returns-clause-cut : goal.returns-clause-cut
returns-clause-cut g c = cut_in c.self.inside.version c.self.inside.view c.follow.new.view c.gain.new.self c.args.self.now c.self.view_is c.follow.ensures.brought c.gain.ensures.movie c.gain.ensures.near

pub returns-clause-made : goal.returns-clause-made
returns-clause-made g c = grind (arith, elements)

pub invariant_of-self : goal.invariant_of-self
invariant_of-self g c = grind (arith, elements)
