use Rattle.std.proofs.Common.{◌≡◌, ◌-◌, ◌<◌, ◌++◌, length, reverse}
use Rattle.tas_search.specs.Inside.Arrivals.{path}
use Rattle.tas_search.proofs.parents.path.Given as goal

-- the path that is left, and then the choices that were found, are the whole path
abbrev pub invariant-loop-back : goal.invariant-loop-back
invariant-loop-back g l = record {
  found : (path l.parents (l.depth - l.back) l.step ++ reverse l.choices.items ≡ path l.parents l.depth l.fn.last);
  within : l.step.parent < length l.parents;
}
