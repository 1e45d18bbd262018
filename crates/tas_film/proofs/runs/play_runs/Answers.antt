use Rattle.std.proofs.lemmas.Grind.{common_steps}
use Rattle.std.proofs.Common.{◌+◌, ◌<◌, length, get_or, sym, subst, arith}
use Rattle.tas_film.specs.declared.runs.Run.{Run}
use Rattle.tas_film.specs.Runs.{first_of_run, IsRunEnd}
use Rattle.tas_film.proofs.RunLemmas.{runs_more}
use Rattle.tas_film.proofs.runs.play_runs.Goals as goal

pub loop-run-preserved : goal.loop-run-preserved
loop-run-preserved g c =
    let movie = c.args.movie.now in
    let zone = c.args.zone.now in
    let plan = c.args.plan in
    let i = c.loop-run.run-index in
    let runs = c.play_each.new.runs in
    let run = c.run-item.result in
    let here : c.loop-run.run-index < length c.play_each.new.runs = omega arith in
    let lt : c.loop-run.run-index < c.args.plan.workers = omega arith in
    let one = subst (λ (r : Run _). IsRunEnd movie zone (first_of_run plan i) (first_of_run plan (i + 1)) (get_or runs i run).pixmaps r.end) (sym c.run-item.is) (c.play_each.ensures i run lt) in
    runs_more movie zone plan i runs run c.loop-run.end run.end c.both-end.result c.requires.plan lt here c.loop-run.invariant one c.both-end.ensures.played c.both-end.ensures.stop

pub both-end-requires : goal.both-end-requires
both-end-requires g c = grind (arith, common_steps)

pub returns : goal.returns
returns g c = grind (arith, common_steps)
