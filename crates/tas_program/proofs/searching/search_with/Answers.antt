use Rattle.tas_search.specs.Logs.{log_bytes}
use Rattle.tas_program.proofs.searching.search_with.Goals as goal

pub returns : goal.returns
returns g c = record { done = _; mid = (log_bytes (g.E.Write.contents c.verdict_of-done.new.errors) (g.P.Write.contents c.verdict_of-done.new.report)); searches = c.verdict_of-done.ensures; reports = c.write_verdict.ensures }
