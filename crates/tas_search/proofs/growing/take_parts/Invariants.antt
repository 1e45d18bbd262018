use Rattle.std.proofs.Common.{◌≡◌, ◌+◌, ◌≤◌, length, take}
use Rattle.tas_search.specs.Inside.Arrivals.{TakesFirst, listed_of}
use Rattle.tas_search.proofs.growing.take_parts.Given as goal

abbrev pub invariant-loop-part : goal.invariant-loop-part
invariant-loop-part g l = record {
  first : TakesFirst l.parts l.fn.grown.layer.keys l.grown.layer.keys l.part-index;
  tried : l.grown.tried ≡ l.fn.grown.tried + listed_of (take l.part-index l.parts);
  fits : length l.grown.layer.keys ≤ l.most;
}
