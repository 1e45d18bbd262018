use Rattle.std.proofs.Common.{◌≡◌, ◌-◌, ◌^◌, ◌<◌, ◌≤◌}
use Rattle.tas_search.proofs.power.greatest_power.Given as goal

abbrev pub invariant-loop-exponent : goal.invariant-loop-exponent
invariant-loop-exponent l = record {
  power : l.factor ≡ l.base ^ l.exponent;
  low : 0 < l.factor;
  high : l.factor ≤ 2 ^ 60;
  some : 0 < l.exponent;
}

abbrev pub decreases-loop-exponent : goal.decreases-loop-exponent
decreases-loop-exponent l = 60 - l.exponent
