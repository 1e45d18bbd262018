use Rattle.std.proofs.Common.{◌≡◌, take}
use Rattle.indexmap.specs.IndexSet.{insert_all}
use Rattle.tas_search.specs.Inside.Arrivals.{are_same_arrivals}
use Rattle.tas_search.proofs.arrival.insert_each.Given as goal

abbrev pub invariant-loop-arrival : goal.invariant-loop-arrival
invariant-loop-arrival g l = l.layer.keys ≡ insert_all are_same_arrivals l.fn.layer.keys (take l.arrival-index l.list)
