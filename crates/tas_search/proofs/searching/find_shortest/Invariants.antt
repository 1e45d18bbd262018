use Rattle.std.proofs.Common.{◌≡◌, ◌+◌}
use Rattle.tas_search.specs.Best.{FitsBelow, NeedsAtLeast}
use Rattle.tas_search.specs.Goal.{holds_of}
use Rattle.tas_search.specs.Logs.{log_bytes}
use Rattle.tas_search.specs.Inside.Arrivals.{IsFrontier}
use Rattle.tas_search.proofs.ReportLemmas.{AreFull, AreLogged}
use Rattle.tas_search.proofs.searching.find_shortest.Given as goal

-- no sequence of at most as many choices meets the goal, the layers so far are within the limit, none of them is empty, and each is reported
abbrev pub invariant-loop-depth : goal.invariant-loop-depth
invariant-loop-depth g l = record {
  frontier : IsFrontier l.space l.frontier.depth l.frontier.place l.frontier.parents.items l.frontier.layer.keys;
  depth : l.frontier.depth ≡ l.depth;
  least : NeedsAtLeast l.space (holds_of (g.M.Measure.value l.goal)) (l.depth + 1);
  fits : FitsBelow l.space l.limits.states (l.depth + 1);
  full : AreFull l.space l.depth;
  logged : AreLogged l.space l.depth (log_bytes (g.E.Write.contents l.fn.errors) (g.P.Write.contents l.fn.report)) (log_bytes (g.E.Write.contents l.errors) (g.P.Write.contents l.report));
}
