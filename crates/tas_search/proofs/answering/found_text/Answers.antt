use Rattle.std.proofs.Common.{arith}
use Rattle.tas_search.specs.declared.search_error.SearchError.TheVariants.{Memory}
use Rattle.std.proofs.lemmas.Grind.{common_steps}
use Rattle.tas_search.specs.Outcome.{outcome_of}
use Rattle.tas_search.specs.Logs.{log_bytes}
use Rattle.tas_search.specs.MovieSearch.{space_of}
use Rattle.tas_search.proofs.LogLemmas.{err_is}
use Rattle.tas_search.proofs.MovieSearchLemmas.{reported_stops}
use Rattle.tas_search.proofs.SearchLemmas.{stop_frames}
use Rattle.tas_search.proofs.answering.found_text.Goals as goal

pub verdict-requires-clause-frames : goal.verdict-requires-clause-frames
verdict-requires-clause-frames g c = stop_frames c.args.movie.now c.args.choices.now c.args.goal.now.kind c.args.goal.now.formula c.args.range (outcome_of c.in-Ok.found) c.in-Ok.changes.items c.in-Ok.ensures.found

pub returns-in_ok-script-in-Ok-clause-text : goal.returns-in_ok-script-in-Ok-clause-text
returns-in_ok-script-in-Ok-clause-text g c = grind (arith, common_steps)

pub returns-in_err-verdict-in-Ok-clause-cut : goal.returns-in_err-verdict-in-Ok-clause-cut
returns-in_err-verdict-in-Ok-clause-cut g c =
    err_is _ Memory _ c.from_residual.ensures.1 (reported_stops (space_of c.args.movie.now c.args.choices.now c.args.range) c.args.goal.now.kind c.args.goal.now.formula c.args.range.count c.args.range.states (outcome_of c.in-Ok.found) (log_bytes (g.E.Write.contents c.args.errors.now) (g.P.Write.contents c.args.report.now)) (log_bytes (g.E.Write.contents c.search_movie.new.errors) (g.P.Write.contents c.search_movie.new.report)) c.in-Ok.ensures.found.1 c.in-Ok.ensures.reported)

pub returns-in_err-script-in-Ok-clause-cut : goal.returns-in_err-script-in-Ok-clause-cut
returns-in_err-script-in-Ok-clause-cut g c =
    err_is _ Memory _ c.from_residual-in_err-script-in-Ok.ensures.1 (reported_stops (space_of c.args.movie.now c.args.choices.now c.args.range) c.args.goal.now.kind c.args.goal.now.formula c.args.range.count c.args.range.states (outcome_of c.in-Ok.found) (log_bytes (g.E.Write.contents c.args.errors.now) (g.P.Write.contents c.args.report.now)) (log_bytes (g.E.Write.contents c.search_movie.new.errors) (g.P.Write.contents c.search_movie.new.report)) c.in-Ok.ensures.found.1 c.in-Ok.ensures.reported)
