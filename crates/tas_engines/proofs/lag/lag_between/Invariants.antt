use Rattle.std.proofs.Common.{◌≡◌}
use Rattle.tas_green.specs.Run.{state_after}
use Rattle.tas_engines.specs.Lag.{is_lag}
use Rattle.tas_engines.proofs.StretchLemmas.{IsOnTheWay}
use Rattle.tas_engines.proofs.lag.lag_between.Given as goal

abbrev pub invariant-loop-k : goal.invariant-loop-k
invariant-loop-k g l = record {
  state : l.state ≡ state_after l.movie l.k;
  way : IsOnTheWay (is_lag l.movie) l.from l.to l.start l.k l.out.items;
}
