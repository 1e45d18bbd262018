use Rattle.tas_verify.proofs.OneOutcome.{one_outcome}
use Rattle.tas_verify.proofs.laws.one_outcome_per_movie.Goals as goal

pub returns : goal.returns
returns g c = one_outcome (g.S.Shelf.facts c.args.shelf.now)
