use Rattle.std.proofs.lemmas.Grind.{common_steps}
use Rattle.std.proofs.Common.{ap, ◌∙◌, arith}
use Rattle.tas_published.specs.Version.{VersionContent}
use Rattle.tas_desk.proofs.ZoneLemmas.{made_blank}
use Rattle.tas_desk.proofs.seat_zone.SeatZone.new.Goals as goal

pub invariant_of-result : goal.invariant_of-result
invariant_of-result g c = made_blank c.copy.result c.in_ok-new.field-0 c.in_ok-movie.movie c.in_ok-new.ensures c.in_ok-movie.ensures (ap (λ (v : VersionContent _). v.history) c.copy.ensures ∙ c.requires)

pub returns : goal.returns
returns g c = grind (arith, common_steps)
