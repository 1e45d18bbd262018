use Rattle.std.proofs.Common.{◌≡◌, take}
use Rattle.std.specs.Prelude.{sum_by}
use Rattle.tas_search.specs.LayerLines.{going_on}
use Rattle.tas_search.proofs.counting.choices_after.Given as goal

abbrev pub invariant-loop-arrival : goal.invariant-loop-arrival
invariant-loop-arrival g l = l.sum ≡ sum_by (λ a. going_on l.space l.depth a.state) (take l.arrival-index l.layer)
