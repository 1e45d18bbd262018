use Rattle.std.proofs.Common.{refl, arith}
use Rattle.tas_film.proofs.RunLemmas.{cost_some, run_none}
use Rattle.tas_film.proofs.runs.play_run.Goals as goal

pub returns-then-first-next : goal.returns-then-first-next
returns-then-first-next g c = run_none c.args.movie.now c.args.zone.now c.args.first c.args.next c.args.pixmaps.now _ c.requires.empty c.if-first-next.true refl

pub returns : goal.returns
returns g c =
    record {
      shows = c.draw_frames-stop.ensures.shows;
      played = λ none. let rise = c.draw_frames-stop.ensures.meter none in
          let is = cost_some c.args.zone.now c.args.first c.args.next (omega arith) in
          omega arith;
      most = omega arith;
    }
