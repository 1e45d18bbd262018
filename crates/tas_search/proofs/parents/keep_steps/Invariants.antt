use Rattle.std.proofs.Common.{◌≡◌, ◌++◌, take}
use Rattle.tas_search.specs.Inside.Arrivals.{steps_of}
use Rattle.tas_search.proofs.parents.keep_steps.Given as goal

abbrev pub invariant-loop-arrival : goal.invariant-loop-arrival
invariant-loop-arrival g l = l.parents.items ≡ l.fn.parents.items ++ steps_of (take l.arrival-index l.layer)
