use Rattle.std.proofs.lemmas.Grind.{common_steps}
use Rattle.std.proofs.Common.{◌+◌, arith}
use Rattle.tas_film.proofs.RunLemmas.{next_within}
use Rattle.tas_film.proofs.runs.PlayerVisitorRun.visit.Goals as goal

pub play_run-run-requires-clause-within : goal.play_run-run-requires-clause-within
play_run-run-requires-clause-within g c =
    let p = c.requires.0 in
    let high = next_within c.args.self.now.plan (c.args.number + 1) p.some p.order (omega arith) in
    omega (arith, high, c.first_of_run-next.ensures, p.within)

pub play_run-run-requires-clause-few : goal.play_run-run-requires-clause-few
play_run-run-requires-clause-few g c = grind (arith, common_steps)

pub play_run-run-requires-clause-order : goal.play_run-run-requires-clause-order
play_run-run-requires-clause-order g c = grind (arith, common_steps)

pub returns : goal.returns
returns g c = grind (arith, common_steps)
