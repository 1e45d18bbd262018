use Rattle.std.proofs.Common.{◌≡◌, ◌-◌, ◌≤◌, [], length, take}
use Rattle.tas_search.specs.Inside.Arrivals.{grown_arrivals, tried_of}
use Rattle.tas_search.proofs.growing.grow.Given as goal

-- the arrivals so far have grown the layer
abbrev pub invariant-loop-at : goal.invariant-loop-at
invariant-loop-at g l = record {
  within : l.at ≤ length l.layer;
  grown : l.grown.layer.keys ≡ grown_arrivals l.space [] l.place (take l.at l.layer);
  tried : l.grown.tried ≡ tried_of l.space l.place (take l.at l.layer);
  fits : length l.grown.layer.keys ≤ l.limits.states;
}

abbrev pub decreases-loop-at : goal.decreases-loop-at
decreases-loop-at g l = length l.layer - l.at
