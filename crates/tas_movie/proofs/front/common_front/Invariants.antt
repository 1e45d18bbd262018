use Rattle.std.proofs.Common.{◌≡◌, ◌-◌, ◌≤◌, length, take}
use Rattle.tas_movie.proofs.front.common_front.Given as goal

abbrev pub invariant-loop-front : goal.invariant-loop-front
invariant-loop-front l = record {
  within_a : l.front ≤ length l.a;
  within_b : l.front ≤ length l.b;
  same : take l.front l.a ≡ take l.front l.b;
}

abbrev pub decreases-loop-front : goal.decreases-loop-front
decreases-loop-front l = length l.a - l.front
