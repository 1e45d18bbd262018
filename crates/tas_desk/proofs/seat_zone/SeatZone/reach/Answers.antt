use Rattle.std.proofs.Common.{arith}
use Rattle.std.proofs.lemmas.Grind.{common_steps}
use Rattle.tas_desk.proofs.ZoneLemmas.{if_ok, viewed_in}
use Rattle.tas_desk.proofs.seat_zone.SeatZone.reach.Goals as goal

pub returns-clause-kept : goal.returns-clause-kept
returns-clause-kept g c =
    viewed_in c.self.inside.version c.self.inside.view c.follow.new.view c.state.new.self c.args.self.now c.args.k c.args.k c.unwrap.result.ran c.self.view_is c.follow.ensures.brought c.follow.ensures.lawful c.state.ensures.movie
    (if_ok _ c.state.result c.unwrap.result c.unwrap.ensures c.state.ensures.kept)

pub returns-clause-forward : goal.returns-clause-forward
returns-clause-forward g c = grind (arith, common_steps)

pub returns-clause-state : goal.returns-clause-state
returns-clause-state g c = grind (arith, common_steps)
