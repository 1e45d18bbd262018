use Rattle.std.proofs.Common.{arith}
use Rattle.std.proofs.lemmas.Grind.{common_steps}
use Rattle.std.proofs.lemmas.Result.{err_from_is_err_and}
use Rattle.tas_tool.proofs.DeskLemmas.{desk_unread, desk_read}
use Rattle.tas_tool.proofs.desk_runs.desk_run.Goals as goal

pub returns-in_err-movie : goal.returns-in_err-movie
returns-in_err-movie g c =
    let p = err_from_is_err_and c.from_residual.result c.from_residual.ensures.1 in
    rw (p.1, p.2) (desk_unread g.D.Door.facts c.args.doors.now.items _ _ _ _ _ _ c.in_err-movie.ensures)

pub returns : goal.returns
returns g c = desk_read g.D.Door.facts c.args.doors.now.items c.desk_on.new.doors.items c.in_ok-movie.movie _ _ _ _ _ _ c.desk_on.result c.in_ok-movie.ensures c.desk_on.ensures

pub desk_on-requires-clause-few : goal.desk_on-requires-clause-few
desk_on-requires-clause-few g c = grind (arith, common_steps)

pub desk_on-requires-clause-some : goal.desk_on-requires-clause-some
desk_on-requires-clause-some g c = grind (arith, common_steps)
