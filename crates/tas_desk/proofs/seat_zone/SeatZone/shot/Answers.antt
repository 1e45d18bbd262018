use Rattle.std.proofs.lemmas.Grind.{common_steps}
use Rattle.std.proofs.Common.{◌+◌, arith}
use Rattle.tas_desk.proofs.ZoneLemmas.{if_ok, played_in, cut_in}
use Rattle.tas_desk.proofs.seat_zone.SeatZone.shot.Goals as goal

pub returns-clause-kept : goal.returns-clause-kept
returns-clause-kept g c =
    played_in c.self.inside.version c.self.inside.view c.follow.new.view c.shot.new.self c.args.self.now c.args.k (c.args.k + 1) c.unwrap.result.ran c.self.view_is c.follow.ensures.brought c.follow.ensures.lawful c.shot.ensures.movie
    (if_ok _ c.shot.result c.unwrap.result c.unwrap.ensures c.shot.ensures.kept)

pub returns-clause-cut : goal.returns-clause-cut
returns-clause-cut g c = cut_in c.self.inside.version c.self.inside.view c.follow.new.view c.shot.new.self c.args.self.now c.self.view_is c.follow.ensures.brought c.shot.ensures.movie c.shot.ensures.near

pub returns-clause-picture : goal.returns-clause-picture
returns-clause-picture g c = grind (arith, common_steps)
