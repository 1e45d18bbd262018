use Rattle.std.proofs.lemmas.Grind.{common_steps}
use Rattle.std.proofs.Common.{◌+◌, arith}
use Rattle.tas_desk.proofs.ZoneLemmas.{if_ok, viewed_in}
use Rattle.tas_desk.proofs.seat_zone.SeatZone.picture.Goals as goal

pub returns-clause-kept : goal.returns-clause-kept
returns-clause-kept g c =
    viewed_in c.self.inside.version c.self.inside.view c.follow.new.view c.picture.new.self c.args.self.now c.args.k (c.args.k + 1) c.unwrap.result.ran c.self.view_is c.follow.ensures.brought c.follow.ensures.lawful c.picture.ensures.movie
    (if_ok _ c.picture.result c.unwrap.result c.unwrap.ensures c.picture.ensures.kept)

pub returns-clause-picture : goal.returns-clause-picture
returns-clause-picture g c = grind (arith, common_steps)
