use Rattle.std.proofs.Common.{◌≡◌, ◌-◌, ◌≤◌, length, take, reverse}
use Rattle.tas_seat.proofs.draft_stroke.common_back.Given as goal

abbrev pub invariant-loop-back : goal.invariant-loop-back
invariant-loop-back l = record {
  within_a : l.back ≤ length l.a;
  within_b : l.back ≤ length l.b;
  same : take l.back (reverse l.a) ≡ take l.back (reverse l.b);
}

abbrev pub decreases-loop-back : goal.decreases-loop-back
decreases-loop-back l = length l.a - l.back
