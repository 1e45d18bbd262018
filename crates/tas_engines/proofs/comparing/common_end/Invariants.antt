use Rattle.std.proofs.Common.{◌≡◌, ◌≤◌, ◌-◌, length, drop}
use Rattle.tas_engines.proofs.comparing.common_end.Given as goal

abbrev pub invariant-loop-end : goal.invariant-loop-end
invariant-loop-end l = record {
  within_a : l.end ≤ length l.a;
  within_b : l.end ≤ length l.b;
  same : drop (length l.a - l.end) l.a ≡ drop (length l.b - l.end) l.b;
}

abbrev pub decreases-loop-end : goal.decreases-loop-end
decreases-loop-end l = length l.a - l.end
