use Rattle.std.proofs.Common.{◌≡◌, ◌+◌}
use Rattle.tas_search.specs.Best.{FitsBelow}
use Rattle.tas_search.specs.Logs.{log_bytes}
use Rattle.tas_search.specs.Inside.Arrivals.{IsFrontier}
use Rattle.tas_search.proofs.ReportLemmas.{AreFull, AreLogged}
use Rattle.tas_search.proofs.extremes.find_extreme.Given as goal

abbrev pub invariant-loop-depth : goal.invariant-loop-depth
invariant-loop-depth g l = record {
  frontier : IsFrontier l.space l.frontier.depth l.frontier.place l.frontier.parents.items l.frontier.layer.keys;
  depth : l.frontier.depth ≡ l.depth;
  fits : FitsBelow l.space l.limits.states (l.depth + 1);
  full : AreFull l.space l.depth;
  logged : AreLogged l.space l.depth (log_bytes (g.E.Write.contents l.fn.errors) (g.P.Write.contents l.fn.report)) (log_bytes (g.E.Write.contents l.errors) (g.P.Write.contents l.report));
}
